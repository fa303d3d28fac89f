use Rattle.std.proofs.Common.{◌≡◌, ◌-◌, [], ◌∷◌, ◌++◌, length, take, sym, ap, ◌∙◌, subst, arith}
use Rattle.std.proofs.lemmas.List.{length-take-le}
use Rattle.std.specs.List.{flat_map}
use Rattle.cnot.specs.Links.{times_of, link_of, links}
use Rattle.cnot.specs.Steps.{cnot_over, swap_over, routed, Laid}
use Rattle.cnot.proofs.Windows.{links_last}
use Rattle.cnot.proofs.Routed.{along_is, routed_more}
use Rattle.cnot.proofs.Laying.{laid_more}
use Rattle.cnot.proofs.There.{laid_there, after_there}
use Rattle.cnot.proofs.write.Writer.along.Goals as goal

pub cnot-requires : goal.cnot-requires
cnot-requires c =
    let cs = c.args.cells.now in
    let there = laid_there c.args.table.now c.args.self.now c.swaps.new.self _ (take (length cs - 1) cs) c.swaps.ensures c.array_windows.ensures.rest c.array_windows.ensures.size in
    let after = after_there c.args.table.now c.args.self.now c.swaps.new.self cs c.in-Some.ensures.cases.0 there in
    let n = along_is (length cs) c.in-Some.ensures.cases.0 in
    (omega (arith, there.places, c.requires.0), omega (arith, c.between.ensures.few, c.requires.1))

pub swaps_back-requires : goal.swaps_back-requires
swaps_back-requires c =
    let cs = c.args.cells.now in
    let there = laid_there c.args.table.now c.args.self.now c.swaps.new.self _ (take (length cs - 1) cs) c.swaps.ensures c.array_windows.ensures.rest c.array_windows.ensures.size in
    let after = after_there c.args.table.now c.args.self.now c.swaps.new.self cs c.in-Some.ensures.cases.0 there in
    let n = along_is (length cs) c.in-Some.ensures.cases.0 in
    let way = length-take-le (length cs - 1) cs (omega arith) in
    let over = c.cnot.ensures in
    (omega (arith, there.places, over.places, over.at, c.requires.0), omega (arith, over.time, c.between.ensures.few, c.requires.1))

pub returns : goal.returns
returns c =
    let time = times_of c.args.table.now in
    let cs = c.args.cells.now in
    let way = take (length cs - 1) cs in
    let ls = links time way in
    let l = c.between.result in
    let last = c.in-Some.ensures.cases in
    let there = laid_there c.args.table.now c.args.self.now c.swaps.new.self _ way c.swaps.ensures c.array_windows.ensures.rest c.array_windows.ensures.size in
    let is : links time cs ≡ ls ++ (l ∷ []) = links_last time cs last.0 ∙ ap (λ x. ls ++ (x ∷ [])) (ap (link_of time) (sym last.1.same) ∙ sym c.between.ensures.value) in
    subst (λ ss. Laid ss c.args.self.now c.swaps_back.new.self) (sym (ap routed is ∙ routed_more ls l))
    (laid_more (flat_map swap_over ls) _ _ _ _ there (laid_more (cnot_over l ∷ []) _ _ _ _ c.cnot.ensures c.swaps_back.ensures))

use Rattle.std.proofs.lemmas.Grind.{common_steps}
use Rattle.std.proofs.Common.{◌≡◌, ◌+◌, length, drop, rules, arith, sym, subst, ◌∙◌, Some, None}
use Rattle.std.specs.Prelude.{position}
use Rattle.std.proofs.lemmas.Iterator.{YieldsList-from_slice}
use Rattle.std.proofs.lemmas.Iterator.Search.{position_from_yields_List}
use Rattle.std.specs.Option.{option_map}
use Rattle.search.specs.Searches.{paired}
use Rattle.search.proofs.Searches.{FirstTells, clear_more, row_tells, scan_is, scanned_here}
use Rattle.search.proofs.first_pair.Given.{Over}
use Rattle.search.proofs.first_pair.Goals as goal
use Rattle.search.proofs.first_pair.Goals.{After-position}

found : (g : Over) (c : After-position g) → c.position.result ≡ position (g.passes c.index-items-i.result) (drop (c.loop-i.i + 1) c.args.items.now)
found g c =
    let rest = drop (c.loop-i.i + 1) c.args.items.now in
    position_from_yields_List (g.passes c.index-items-i.result) _ _ c.position.result c.position.ensures.ran (YieldsList-from_slice rest (grind (arith, common_steps))) (λ x b q k. (search rules, c.requires.1.1.1 _ _ _ (search rules)))

pub loop-i-preserved : goal.loop-i-preserved
loop-i-preserved g c d =
    let xs = c.args.items.now in
    let x = c.index-items-i.result in
    let e = found g (goal.at-loop-i-preserved g c).After-position in
    clear_more (paired g.passes xs d) (length xs) (length xs) c.loop-i.i (c.loop-i.invariant d)
    (subst (λ o. FirstTells (paired g.passes xs d c.loop-i.i) 0 (length xs) (option_map (λ k. c.loop-i.i + 1 + k) o)) (sym e ∙ c.in_default.is) (row_tells g.passes xs d c.loop-i.i x c.loop-i-test.true c.index-items-i.is))

pub returns-in-Some : goal.returns-in-Some
returns-in-Some g c =
    let xs = c.args.items.now in
    let n = length xs in
    let i = c.loop-i.i in
    let x = c.index-items-i.result in
    let e = found g (goal.at-returns-in-Some g c).After-position in
    let row = λ (d : g.row.T.Denot). subst (λ o. FirstTells (paired g.passes xs d i) 0 n (option_map (λ k. i + 1 + k) o)) (sym e ∙ c.in-Some.is) (row_tells g.passes xs d i x c.loop-i-test.true c.index-items-i.is) in
    let least = λ (d : g.row.T.Denot). scanned_here (paired g.passes xs d) n n i (i + 1 + c.in-Some.k) c.loop-i-test.true (c.loop-i.invariant d) (row d) in
    record { value = λ d. scan_is (paired g.passes xs d) n n (Some (i, i + 1 + c.in-Some.k)) (least d); least = least }

pub returns-clause-value : goal.returns-clause-value
returns-clause-value g c d = let n = length c.args.items.now in scan_is (paired g.passes c.args.items.now d) n n None (λ a b l k. c.loop-i.invariant d a b (omega arith) k)

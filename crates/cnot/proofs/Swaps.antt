-- The swaps over links: how many steps they have, and how long they last. Assumes nothing.
use Rattle.std.proofs.Common.{◌≡◌, ℕ, ◌*◌, ◌≤◌, List, [], ◌∷◌, ◌++◌, length, slice_index, Bor, refl, ap, ◌∙◌, arith}
use Rattle.std.specs.List.{flat_map}
use Rattle.std.proofs.lemmas.List.{length-map, map-append}
use Rattle.std.proofs.lemmas.List.Sums.{sum_by-cons, sum_by-append}
use Rattle.std.proofs.lemmas.Grind.{flat_map-append}
use Rattle.calibration.specs.declared.table.CalibrationTable.{CalibrationTable}
use Rattle.cnot.specs.declared.link.Link.{Link}
use Rattle.cnot.specs.Links.{times_of, link_of, links_of}
use Rattle.cnot.specs.Steps.{lasting, swap_over}
use Rattle.cnot.proofs.Links.{time_few, total}

pub length_swaps : (ls : List Link) → length (flat_map swap_over ls) ≡ 3 * length ls
length_swaps [] = refl
length_swaps (l ∷ ls) = let h = length_swaps ls in omega arith

pub lasting_swaps : (ls : List Link) → lasting (flat_map swap_over ls) ≡ 3 * total ls
lasting_swaps [] = refl
lasting_swaps (l ∷ ls) =
    sum_by-append (λ s. s.length) (swap_over l) (flat_map swap_over ls)
    ∙ (let h = lasting_swaps ls in let k = sum_by-cons (λ m. m.time) l ls in omega arith)

module _ (time : ℕ → ℕ → ℕ) where
  pub length_links_of : (es : List (Bor (List ℕ))) → length (links_of time es) ≡ length es
  unfolding links_of
  length_links_of es = length-map es (λ x. link_of time x.now)

  -- one swap more
  pub swaps_more : (es : List (Bor (List ℕ))) (e : Bor (List ℕ)) → flat_map swap_over (links_of time (es ++ (e ∷ []))) ≡ flat_map swap_over (links_of time es) ++ swap_over (link_of time e.now)
  unfolding links_of
  swaps_more es e = ap (flat_map swap_over) (map-append (λ x. link_of time x.now) es (e ∷ [])) ∙ flat_map-append swap_over (links_of time es) (link_of time e.now ∷ [])

pub total_of_few : (t : CalibrationTable) (es : List (Bor (List ℕ))) → total (links_of (times_of t) es) ≤ 1000 * length es
unfolding links_of
total_of_few t [] = omega arith
total_of_few t (e ∷ es) =
    let h = total_of_few t es in
    let f = time_few t (slice_index e.now 0) (slice_index e.now 1) in
    let s = sum_by-cons (λ l. l.time) (link_of (times_of t) e.now) (links_of (times_of t) es) in
    omega arith

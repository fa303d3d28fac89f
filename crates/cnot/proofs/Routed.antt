-- How many steps a routed CNOT has, and how long they last. Assumes nothing.
use Rattle.std.proofs.Common.{◌≡◌, ℕ, ◌+◌, ◌-◌, ◌*◌, ◌<◌, ◌≤◌, cond, List, [], ◌∷◌, ◌++◌, map, reverse, length, take, drop, sum, sym, refl, ap, ◌∙◌, ap₂, inl, inr, arith}
use mathlib.Core.List.{reverse-cons}
use Rattle.std.proofs.lemmas.Bool.{cases_lt, lt-ltb, le-ltb}
use Rattle.std.specs.List.{flat_map}
use Rattle.std.proofs.lemmas.List.{length-append, length-reverse, length-map, length-take-le, length-drop, nil_from_length, take-map, drop-map}
use Rattle.std.proofs.lemmas.List.Sums.{sum_by-cons, sum_by-append, sum_by_push, sum-map}
use Rattle.std.proofs.Math.Seq.{take-append_seam, drop-append_seam}
use Rattle.cnot.specs.declared.link.Link.{Link}
use Rattle.cnot.specs.Links.{front, final, link_of, links, operations_along, time_over}
use Rattle.cnot.specs.Steps.{lasting, cnot_over, swap_over, routed}
use Rattle.cnot.proofs.Links.{length-links, total}
use Rattle.cnot.proofs.Windows.{links_last}
use Rattle.cnot.proofs.Swaps.{length_swaps, lasting_swaps}

module _ (ls : List Link) (l : Link) where
  front_more : front (ls ++ (l ∷ [])) ≡ ls
  front_more = ap (λ n. take n (ls ++ (l ∷ []))) (let n = length-append ls (l ∷ []) in omega arith) ∙ take-append_seam ls (l ∷ [])

  final_more : final (ls ++ (l ∷ [])) ≡ l ∷ []
  final_more = ap (λ n. drop n (ls ++ (l ∷ []))) (let n = length-append ls (l ∷ []) in omega arith) ∙ drop-append_seam ls (l ∷ [])

  -- a CNOT over links and one more
  pub routed_more : routed (ls ++ (l ∷ [])) ≡ flat_map swap_over ls ++ (cnot_over l ∷ flat_map swap_over (reverse ls))
  routed_more = ap₂ (λ fs es. flat_map swap_over fs ++ (map cnot_over es ++ flat_map swap_over (reverse fs))) front_more final_more

lasting_cnots : (ls : List Link) → lasting (map cnot_over ls) ≡ total ls
lasting_cnots [] = refl
lasting_cnots (l ∷ ls) = sum_by-cons (λ s. s.length) (cnot_over l) (map cnot_over ls) ∙ (let h = lasting_cnots ls in let k = sum_by-cons (λ m. m.time) l ls in omega arith)

total_reverse : (ls : List Link) → total (reverse ls) ≡ total ls
total_reverse [] = refl
total_reverse (l ∷ ls) =
    ap total (reverse-cons l ls) ∙ sum_by_push (λ m. m.time) (reverse ls) l ∙ (let h = total_reverse ls in let k = sum_by-cons (λ m. m.time) l ls in omega arith)

length-final : (ls : List Link) → 0 < length ls → length (final ls) ≡ 1
length-final ls h = length-drop (length ls - 1) ls ∙ omega arith

-- six CNOTs for each link but the last, and one for the last
pub length-routed : (ls : List Link) → 0 < length ls → length (routed ls) ≡ 6 * (length ls - 1) + 1
length-routed ls h =
    let n : length (front ls) ≡ length ls - 1 = length-take-le (length ls - 1) ls (omega arith) in
    let a = length-append (flat_map swap_over (front ls)) (map cnot_over (final ls) ++ flat_map swap_over (reverse (front ls))) in
    let b = length-append (map cnot_over (final ls)) (flat_map swap_over (reverse (front ls))) in
    let c = length-map (final ls) cnot_over in
    let d = length-final ls h in
    let e = length_swaps (front ls) in
    let f = length_swaps (reverse (front ls)) in
    let r = length-reverse (front ls) in
    omega arith

front_times : (ls : List Link) → sum (front (map (λ l. l.time) ls)) ≡ total (front ls)
front_times ls = ap (λ n. sum (take (n - 1) (map (λ l. l.time) ls))) (length-map ls (λ l. l.time)) ∙ ap sum (take-map (λ l. l.time) (length ls - 1) ls) ∙ sum-map (λ l. l.time) (front ls)

final_times : (ls : List Link) → sum (final (map (λ l. l.time) ls)) ≡ total (final ls)
final_times ls = ap (λ n. sum (drop (n - 1) (map (λ l. l.time) ls))) (length-map ls (λ l. l.time)) ∙ ap sum (drop-map (λ l. l.time) (length ls - 1) ls) ∙ sum-map (λ l. l.time) (final ls)

-- six times the times of all links but the last, and the time of the last
pub time_over_more : (ls : List Link) (l : Link) → time_over (ls ++ (l ∷ [])) ≡ 6 * total ls + l.time
time_over_more ls l =
    let a = front_times (ls ++ (l ∷ [])) ∙ ap total (front_more ls l) in
    let b = final_times (ls ++ (l ∷ [])) ∙ ap total (final_more ls l) in
    let c = sum_by-cons (λ m. m.time) l [] in
    omega arith

-- the swaps there and back and the CNOT last as long as the routed CNOT
pub lasting-routed : (ls : List Link) → lasting (routed ls) ≡ time_over ls
lasting-routed ls =
    let a = sum_by-append (λ s. s.length) (flat_map swap_over (front ls)) (map cnot_over (final ls) ++ flat_map swap_over (reverse (front ls))) in
    let b = sum_by-append (λ s. s.length) (map cnot_over (final ls)) (flat_map swap_over (reverse (front ls))) in
    let c = lasting_swaps (front ls) in
    let d = lasting_swaps (reverse (front ls)) in
    let r = total_reverse (front ls) in
    let e = lasting_cnots (final ls) in
    let f = front_times ls in
    let g = final_times ls in
    omega arith

-- as many operations as the cells of the path say
pub along_none : (n : ℕ) → n < 2 → operations_along n ≡ 0
along_none n l = ap (λ t. cond t 0 (6 * (n - 2) + 1)) (lt-ltb n 2 l)

pub along_is : (n : ℕ) → 2 ≤ n → operations_along n ≡ 6 * (n - 2) + 1
along_is n l = ap (λ t. cond t 0 (6 * (n - 2) + 1)) (le-ltb n 2 l)

pub length_along : (time : ℕ → ℕ → ℕ) (cs : List ℕ) → length (routed (links time cs)) ≡ operations_along (length cs)
length_along time cs =
    elim (cases_lt (length cs) 2) [
      | inl l ↦ let n = length-links time cs in ap (λ ls. length (routed ls)) (nil_from_length (links time cs) (omega arith)) ∙ sym (along_none (length cs) l)
      | inr l ↦ let n = length-links time cs in let r = length-routed (links time cs) (omega arith) in let e = along_is (length cs) l in omega arith
    ]

pub along_few : (n : ℕ) → n ≤ 64 → operations_along n ≤ 373
along_few n h =
    elim (cases_lt n 2) [
      | inl l ↦ let e = along_none n l in omega arith
      | inr l ↦ let e = along_is n l in omega arith
    ]

-- six times the times of the links of all cells but the last, and the time of the last link
pub time_over_last : (time : ℕ → ℕ → ℕ) (cs : List ℕ) → 2 ≤ length cs → time_over (links time cs) ≡ 6 * total (links time (take (length cs - 1) cs)) + (link_of time (drop (length cs - 2) cs)).time
time_over_last time cs h = ap time_over (links_last time cs h) ∙ time_over_more (links time (take (length cs - 1) cs)) (link_of time (drop (length cs - 2) cs))

pub ruleset times = (time_over_last, lasting-routed)

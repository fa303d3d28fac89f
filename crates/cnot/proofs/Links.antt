-- The links along a path, and the bounds on their times. Assumes nothing.
use Rattle.std.proofs.Common.{◌≡◌, ℕ, suc, ◌-◌, ◌*◌, ◌≤◌, List, [], ◌∷◌, length, sum_by, refl, ap, ◌∙◌, arith}
use Rattle.std.proofs.lemmas.List.Sums.{sum_by-cons}
use Rattle.calibration.specs.declared.table.CalibrationTable.{CalibrationTable}
use Rattle.calibration.specs.Tables.{table_grid, table_values}
use Rattle.calibration.proofs.Links.{link-few}
use Rattle.cnot.specs.declared.link.Link.{Link}
use Rattle.cnot.specs.Links.{times_of, link, links_from, links}

length_from : (time : ℕ → ℕ → ℕ) (a : ℕ) (cs : List ℕ) → length (links_from time a cs) ≡ length cs
length_from time a [] = refl
length_from time a (b ∷ cs) = ap suc (length_from time b cs)

-- one link fewer than cells
pub length-links : (time : ℕ → ℕ → ℕ) (cs : List ℕ) → length (links time cs) ≡ length cs - 1
length-links time [] = refl
length-links time (a ∷ cs) = length_from time a cs ∙ omega arith

-- no link of a table takes more than 1000
pub time_few : (t : CalibrationTable) (a b : ℕ) → times_of t a b ≤ 1000
time_few t a b = link-few (table_grid t) (table_values t) t.ranged a b

-- the times of links together
abbrev pub total : List Link → ℕ
total ls = sum_by (λ l. l.time) ls

total_from : (t : CalibrationTable) (a : ℕ) (cs : List ℕ) → total (links_from (times_of t) a cs) ≤ 1000 * length cs
total_from t a [] = omega arith
total_from t a (b ∷ cs) =
    let h = total_from t b cs in
    let f = time_few t a b in
    let s = sum_by-cons (λ l. l.time) (link (times_of t) a b) (links_from (times_of t) b cs) in
    omega arith

pub total_few : (t : CalibrationTable) (cs : List ℕ) → total (links (times_of t) cs) ≤ 1000 * (length cs - 1)
total_few t [] = omega arith
total_few t (a ∷ cs) = let h = total_from t a cs in omega arith

-- The delivered rules are lawful. Assumes nothing.
use Rattle.std.specs.Prelude.{◌≡◌, ℕ, ◌<◌, true, length, ◌==◌, nat_eq, nat_lt, slice_index, slice_index_or, refl}
use Rattle.std.proofs.Common.{sym, ap, subst, ◌∙◌, arith, lit≤}
use Rattle.std.proofs.lemmas.Bool.{eq-eqb, eqb-true, and_from, and_parts, ltb-true, lt-ltb}
use Rattle.std.proofs.lemmas.Bool.Decides.{nat_tests}
use Rattle.orders.proofs.Lists.{any-has, any-from}
use Rattle.grid.specs.Grids.{Grid, GridFit, cells, column, row, place}
use Rattle.route.specs.Routes.{RouteLawful}
use Rattle.route.proofs.Places.{runs-from}
use Rattle.rules.specs.Bends.{toward, row_place, bent_path, amid, in_rectangle, one_bend, rectangle}
use Rattle.rules.specs.BendsLemmas.{inside, place_of_cell, long, at, bent_runs, bent_below}

pub one_bend_lawful : RouteLawful one_bend
one_bend_lawful = record {
  some_choice = lit≤ tt;
  few_choices = lit≤ tt;
  runs = λ g a z c fit ne a_in z_in offered.
      let p = bent_path (c == 0) g a z in
      runs-from g a z p _ (bent_runs g fit (c == 0) a z a_in z_in)
      (λ k l. any-from (nat_eq (slice_index p k)) p 0 k l (eq-eqb (slice_index p k) (slice_index p k) refl))
      (λ x e. let f = any-has (nat_eq x) p 0 e in subst (λ y. y < cells g) (sym (eqb-true x (slice_index p f.0) f.2)) (bent_below g fit (c == 0) a z a_in z_in f.0 f.1));
}

toward_amid : (u v k : ℕ) → amid u v (toward u v k) ≡ true
toward_amid u v k = grind (arith, nat_tests)

-- the path along the row first stays in the rectangle
row_enclosed : (g : Grid) (fit : GridFit g) (a z : ℕ) → a < cells g → z < cells g → (k : ℕ) → k < length (bent_path true g a z) → in_rectangle g a z (slice_index (bent_path true g a z) k) ≡ true
row_enclosed g fit a z a_in z_in k l =
    let c = slice_index_or (bent_path true g a z) k 0 in
    let f = row_place (place g a) (place g z) k in
    let e : place g c ≡ f = ap (place g) (at g fit true a z a_in z_in k (omega (arith, long g fit true a z a_in z_in))) ∙ place_of_cell g fit f (inside g fit true a z a_in z_in k) in
    and_from (nat_lt c (cells g)) _ (lt-ltb c (cells g) (bent_below g fit true a z a_in z_in k l))
    (and_from (amid (column g a) (column g z) (column g c)) _
    (subst (λ q. amid (column g a) (column g z) q.0 ≡ true) (sym e) (toward_amid (column g a) (column g z) k))
    (subst (λ q. amid (row g a) (row g z) q.1 ≡ true) (sym e) (toward_amid (row g a) (row g z) _)))

pub rectangle_lawful : RouteLawful rectangle
rectangle_lawful = record {
  some_choice = lit≤ tt;
  few_choices = lit≤ tt;
  runs = λ g a z c fit ne a_in z_in offered.
      runs-from g a z (bent_path true g a z) (in_rectangle g a z) (bent_runs g fit true a z a_in z_in) (row_enclosed g fit a z a_in z_in)
      (λ x e. ltb-true x (cells g) (and_parts (nat_lt x (cells g)) _ e).0);
}

-- A bent path is lawful by its places. Assumes nothing.
use Rattle.std.specs.Prelude.{◌≡◌, ℕ, ◌+◌, ◌<◌, ◌≤◌, Bool, length, ◌≢◌, slice_index}
use Rattle.std.proofs.Common.{sym, ap, subst, subst₂, ◌∙◌, arith, mod-lt, div-lt_iff_lt-mul, div-add-mod', mul_comm, zero-add}
use Rattle.std.proofs.lemmas.Nat.{mul-add-lt, div-mul-add, mod-mul-add}
use Rattle.std.proofs.lemmas.List.FromFn.{length-map-range_with_len, get_or-map-range_with_len}
use Rattle.grid.specs.Grids.{Grid, GridFit, cells, place, Beside, Neighbours}
use Rattle.route.proofs.Places.{PlaceRuns}
use Rattle.rules.specs.Bends.{Inside, bent_place, step_count, cell_at, bent_path}
use Rattle.rules.specs.Walks.{Walk, bent_walk}

module _ (g : Grid) (fit : GridFit g) where
  pub place_inside : (c : ℕ) → c < cells g → Inside g (place g c)
  place_inside c l = (mod-lt c fit.some_columns, (div-lt_iff_lt-mul {k = g.columns} {x = c} {y = g.rows} fit.some_columns).1 l)

  pub cell_inside : (p : ℕ × ℕ) → Inside g p → cell_at g p < cells g
  cell_inside p h = omega (arith, mul-add-lt p.1 g.columns p.0 g.rows h.1 h.0, mul_comm g.columns g.rows)

  -- a place within the grid is that of its cell
  pub place_of_cell : (p : ℕ × ℕ) → Inside g p → place g (cell_at g p) ≡ p
  place_of_cell p h = λ i. (mod-mul-add p.1 g.columns p.0 h.0 i, div-mul-add p.1 g.columns p.0 h.0 i)

  cell_of_place : (c : ℕ) → cell_at g (place g c) ≡ c
  cell_of_place c = div-add-mod' c g.columns

  pub few_steps : (p q : ℕ × ℕ) → Inside g p → Inside g q → step_count p q ≤ 14
  few_steps p q u v =
      let a = u.0 in let b = u.1 in let c = v.0 in let d = v.1 in let e = fit.few_columns in let f = fit.few_rows in
      omega arith

  -- the way between two places stays within the grid
  pub way_inside : (row_first : Bool) (p q : ℕ × ℕ) → Inside g p → Inside g q → (k : ℕ) → Inside g (bent_place row_first p q k)
  way_inside row_first p q u v = (bent_walk row_first p q).within g.columns g.rows u.0 u.1 v.0 v.1

  module _ (row_first : Bool) (a z : ℕ) (a_in : a < cells g) (z_in : z < cells g) where
    abbrev p : ℕ × ℕ
    p = place g a

    abbrev q : ℕ × ℕ
    q = place g z

    abbrev f : ℕ → ℕ × ℕ
    f = bent_place row_first p q

    abbrev n : ℕ
    n = step_count p q

    walk : Walk p q f n
    walk = bent_walk row_first p q

    pub inside : (k : ℕ) → Inside g (f k)
    inside = way_inside row_first p q (place_inside a a_in) (place_inside z z_in)

    pub long : length (bent_path row_first g a z) ≡ n + 1
    long = length-map-range_with_len (λ k. cell_at g (f k)) 0 (n + 1)

    pub at : (k : ℕ) → k < n + 1 → slice_index (bent_path row_first g a z) k ≡ cell_at g (f k)
    at k l = get_or-map-range_with_len (λ i. cell_at g (f i)) 0 (n + 1) k k 0 l (zero-add k)

    step : (k : ℕ) → k < n → Neighbours g (cell_at g (f k)) (cell_at g (f (k + 1)))
    step k l = (
      cell_inside (f k) (inside k),
      cell_inside (f (k + 1)) (inside (k + 1)),
      subst₂ Beside (sym (place_of_cell (f k) (inside k))) (sym (place_of_cell (f (k + 1)) (inside (k + 1)))) (walk.steps k l),
    )

    apart : (i j : ℕ) → i < j → j ≤ n → cell_at g (f i) ≢ cell_at g (f j)
    apart i j l m e =
        let same : f i ≡ f j = sym (place_of_cell (f i) (inside i)) ∙ ap (place g) e ∙ place_of_cell (f j) (inside j) in
        let ij : i ≡ j = sym (walk.counts i (omega arith)) ∙ ap (step_count p) same ∙ walk.counts j m in
        omega arith

    pub bent_runs : PlaceRuns g a z (bent_path row_first g a z)
    bent_runs = record {
      some = omega (arith, long);
      starts = at 0 (omega arith) ∙ ap (cell_at g) walk.starts ∙ cell_of_place a;
      ends = ap (λ m. slice_index (bent_path row_first g a z) m) (omega (arith, long)) ∙ at n (omega arith) ∙ ap (cell_at g) walk.ends ∙ cell_of_place z;
      steps = λ k l. subst₂ (Neighbours g) (sym (at k (omega (arith, long)))) (sym (at (k + 1) (omega (arith, long)))) (step k (omega (arith, long)));
      once = λ i j l m e. apart i j l (omega (arith, long)) (sym (at i (omega (arith, long))) ∙ e ∙ at j (omega (arith, long)));
    }

    pub bent_below : (k : ℕ) → k < length (bent_path row_first g a z) → slice_index (bent_path row_first g a z) k < cells g
    bent_below k l = subst (λ c. c < cells g) (sym (at k (omega (arith, long)))) (cell_inside (f k) (inside k))

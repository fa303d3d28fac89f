-- Walks from place to place, along the row first or along the column. Assumes nothing.
use Rattle.std.specs.Prelude.{◌≡◌, ℕ, ◌+◌, ◌-◌, ◌<◌, ◌≤◌, min, Bool, true, false}
use Rattle.std.proofs.Common.{ap, ap₂, subst, ◌∙◌, inl, inr, arith, add_comm}
use Rattle.std.proofs.Math.Nat.{zero-sub}
use Rattle.std.proofs.lemmas.Bool.{cases_lt}
use Rattle.grid.specs.Grids.{NextTo, Beside}
use Rattle.rules.specs.Bends.{dist, toward, row_place, column_place, bent_place, step_count}

-- f goes from p to q in n steps, from each place to one beside it; step k is k steps away from p
pub record Walk (p q : ℕ × ℕ) (f : ℕ → ℕ × ℕ) (n : ℕ) : Type 0 where
  pub starts : f 0 ≡ p
  pub ends : f n ≡ q
  pub steps : (k : ℕ) → k < n → Beside (f k) (f (k + 1))
  pub counts : (k : ℕ) → k ≤ n → step_count p (f k) ≡ k
  pub within : (w h : ℕ) → p.0 < w → p.1 < h → q.0 < w → q.1 < h → (k : ℕ) → ((f k).0 < w) × ((f k).1 < h)

toward_none : (a b : ℕ) → toward a b 0 ≡ a
toward_none a b = omega arith

toward_all : (a b k : ℕ) → dist a b ≤ k → toward a b k ≡ b
toward_all a b k h = omega arith

toward_step : (a b k : ℕ) → k < dist a b → NextTo (toward a b k) (toward a b (k + 1))
toward_step a b k h = elim (cases_lt b a) [ inl l ↦ inr (omega arith) | inr l ↦ inl (omega arith) ]

toward_still : (a b k : ℕ) → dist a b ≤ k → toward a b k ≡ toward a b (k + 1)
toward_still a b k h = omega arith

dist_up : (a m : ℕ) → dist a (a + m) ≡ m
dist_up a m = omega arith

dist_down : (a m : ℕ) → m ≤ a → dist a (a - m) ≡ m
dist_down a m h = omega arith

up_is : (a b k : ℕ) → a ≤ b → toward a b k ≡ a + min k (dist a b)
up_is a b k l = omega arith

down_is : (a b k : ℕ) → b < a → toward a b k ≡ a - min k (dist a b)
down_is a b k l = omega arith

toward_dist : (a b k : ℕ) → dist a (toward a b k) ≡ min k (dist a b)
toward_dist a b k =
    elim (cases_lt b a) [
      | inl l ↦ ap (dist a) (down_is a b k l) ∙ dist_down a (min k (dist a b)) (omega arith)
      | inr l ↦ ap (dist a) (up_is a b k l) ∙ dist_up a (min k (dist a b))
    ]

toward_below : (a b k n : ℕ) → a < n → b < n → toward a b k < n
toward_below a b k n h l = omega arith

all_steps : (k d e : ℕ) → k ≤ d + e → min k d + min (k - d) e ≡ k
all_steps k d e l = omega arith

pub row_walk : (p q : ℕ × ℕ) → Walk p q (row_place p q) (step_count p q)
row_walk p q =
    let d = dist p.0 q.0 in
    record {
      starts = λ i. (toward_none p.0 q.0 i, (ap (toward p.1 q.1) (zero-sub d) ∙ toward_none p.1 q.1) i);
      ends = λ i. (toward_all p.0 q.0 (step_count p q) (omega arith) i, toward_all p.1 q.1 (step_count p q - d) (omega arith) i);
      steps = λ k l. elim (cases_lt k d) [
        | inl s ↦ inl (ap (toward p.1 q.1) (omega arith), toward_step p.0 q.0 k s)
        | inr s ↦ inr (toward_still p.0 q.0 k s, subst (λ m. NextTo (toward p.1 q.1 (k - d)) (toward p.1 q.1 m)) (omega arith) (toward_step p.1 q.1 (k - d) (omega arith)))
      ];
      counts = λ k l. ap₂ ◌+◌ (toward_dist p.0 q.0 k) (toward_dist p.1 q.1 (k - d)) ∙ all_steps k d (dist p.1 q.1) l;
      within = λ w h a b c e k. (toward_below p.0 q.0 k w a c, toward_below p.1 q.1 (k - d) h b e);
    }

-- columns and rows exchanged
abbrev turned : ℕ × ℕ → ℕ × ℕ
turned p = (p.1, p.0)

beside_turned : (p q : ℕ × ℕ) → Beside p q → Beside (turned p) (turned q)
beside_turned p q (inl h) = inr h
beside_turned p q (inr h) = inl h

-- the walk along the column first is one along the row first, turned
pub column_walk : (p q : ℕ × ℕ) → Walk p q (column_place p q) (step_count p q)
column_walk p q =
    let r = row_walk (turned p) (turned q) in
    let same : step_count p q ≡ step_count (turned p) (turned q) = add_comm (dist p.0 q.0) (dist p.1 q.1) in
    record {
      starts = ap turned r.starts;
      ends = ap (column_place p q) same ∙ ap turned r.ends;
      steps = λ k l. beside_turned (row_place (turned p) (turned q) k) (row_place (turned p) (turned q) (k + 1)) (r.steps k (omega arith));
      counts = λ k l. add_comm (dist p.0 (column_place p q k).0) (dist p.1 (column_place p q k).1) ∙ r.counts k (omega arith);
      within = λ w h a b c e k. let t = r.within h w b a e c k in (t.1, t.0);
    }

pub bent_walk : (row_first : Bool) (p q : ℕ × ℕ) → Walk p q (bent_place row_first p q) (step_count p q)
bent_walk true p q = row_walk p q
bent_walk false p q = column_walk p q

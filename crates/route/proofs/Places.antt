-- A path that is lawful by its places is lawful. Assumes nothing.
use Rattle.std.proofs.Common.{◌≡◌, ℕ, suc, ◌+◌, ◌-◌, ◌<◌, Bool, true, ◌≢◌, List, [], ◌∷◌, length, get_or, refl, ap, ◌∙◌, subst, arith}
use Rattle.std.proofs.ByRecursion.{All-from_get_or}
use Rattle.orders.proofs.Lists.{pairs_from-get_or}
use Rattle.grid.specs.Grids.{Grid, cells, Neighbours}
use Rattle.route.specs.Paths.{Chain, last, FromTo, Stepped}
use Rattle.route.specs.Routes.{Runs}

-- a path by its places
pub record PlaceRuns (g : Grid) (a z : ℕ) (p : List ℕ) : Type 0 where
  pub some : 0 < length p
  pub starts : get_or p 0 0 ≡ a
  pub ends : get_or p (length p - 1) 0 ≡ z
  pub steps : (k : ℕ) → k + 1 < length p → Neighbours g (get_or p k 0) (get_or p (k + 1) 0)
  pub once : (i j : ℕ) → i < j → j < length p → get_or p i 0 ≡ get_or p j 0 → ⊥

last_is : (c : ℕ) (cs : List ℕ) → last c cs ≡ get_or (c ∷ cs) (length cs) 0
last_is c [] = refl
last_is c (d ∷ cs) = last_is d cs

from_to : (a z : ℕ) (p : List ℕ) → 0 < length p → get_or p 0 0 ≡ a → get_or p (length p - 1) 0 ≡ z → FromTo a z p
from_to a z [] h e f = absurd (omega arith)
from_to a z (c ∷ cs) h e f = (e, last_is c cs ∙ ap (λ n. get_or (c ∷ cs) n 0) (omega arith) ∙ f)

chain : (g : Grid) (c : ℕ) (cs : List ℕ) → ((k : ℕ) → k + 1 < length (c ∷ cs) → Neighbours g (get_or (c ∷ cs) k 0) (get_or (c ∷ cs) (k + 1) 0)) → Chain (Neighbours g) c cs
chain g c [] h = tt
chain g c (d ∷ cs) h = (h 0 (omega arith), chain g d cs (λ k l. let e : suc k + 1 ≡ suc (k + 1) = omega arith in subst (λ n. Neighbours g (get_or (d ∷ cs) k 0) (get_or (c ∷ d ∷ cs) n 0)) e (h (suc k) (omega arith))))

stepped : (g : Grid) (p : List ℕ) → ((k : ℕ) → k + 1 < length p → Neighbours g (get_or p k 0) (get_or p (k + 1) 0)) → Stepped g p
stepped g [] h = tt
stepped g (c ∷ cs) h = chain g c cs h

-- with the reserved cells beside
pub runs-from : (g : Grid) (a z : ℕ) (p : List ℕ) (r : ℕ → Bool) → PlaceRuns g a z p → ((k : ℕ) → k < length p → r (get_or p k 0) ≡ true) → ((c : ℕ) → r c ≡ true → c < cells g) → Runs g a z p r
runs-from g a z p r q all only = record {
  from_to = from_to a z p q.some q.starts q.ends;
  stepped = stepped g p q.steps;
  no_twice = pairs_from-get_or (λ x y. x ≢ y) p 0 q.once;
  kept = All-from_get_or (λ c. r c ≡ true) p 0 all;
  only_cells = only;
}

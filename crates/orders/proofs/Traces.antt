-- Two orders of a list that agree on each dependent pair differ by exchanges of independent neighbours. Assumes nothing.
use Rattle.std.proofs.Common.{ℕ, ◌<◌, ◌≤◌, ◌≢◌, List, [], ◌∷◌, map, arith}
use native.Mathlib.Decide.{dec_le}
use Rattle.std.specs.List.{AllByRecursion}
use Rattle.std.proofs.ByRecursion.{All-weaker}
use Rattle.orders.specs.Perms.{Insert, here, there, Perm, none, more}
use Rattle.orders.specs.Lists.{Pairs}
use Rattle.orders.specs.Exchanges.{Exchanges, same, keep, turn, next}
use Rattle.orders.proofs.Perms.{all_insert, all_insert_it, all_perm}
use Rattle.orders.proofs.Pairs.{pairs_insert_rest, pairs_perm, pairs_weaker, pairs_both}

-- x goes to the front past elements of which it is independent
pub to_front : {X : Type 0} {x : X} {xs ys : List X} (D : X → X → Type 0) (L : X → X → Type 0)
    → ((a b : X) → D a b → D b a) → ((a b : X) → L a b → L b a → ⊥)
    → Insert x xs ys → Pairs (λ a b. D a b → L a b) ys → AllByRecursion (λ b. D x b → L x b) xs
    → Exchanges (λ a b. D a b → ⊥) (x ∷ xs) ys
to_front D L s n here p a = same
to_front {x = x} D L s n (there {y = y} i) p a =
    next (turn (λ d. n x y (a.0 d) (all_insert_it (λ b. D y b → L y b) i p.0 (s x y d)))) (keep (to_front D L s n i p.1 a.1))

-- two orders that agree on each dependent pair
pub one_trace : {X : Type 0} {xs ys : List X} (D : X → X → Type 0) (L : X → X → Type 0)
    → ((a b : X) → D a b → D b a) → ((a b : X) → L a b → L b a → ⊥)
    → Perm xs ys → Pairs (λ a b. D a b → L a b) xs → Pairs (λ a b. D a b → L a b) ys
    → Exchanges (λ a b. D a b → ⊥) xs ys
one_trace D L s n none p q = same
one_trace D L s n (more {x = x} {ys = ys} r i) p q =
    next (keep (one_trace D L s n r p.1 (pairs_insert_rest (λ a b. D a b → L a b) i q))) (to_front D L s n i q (all_perm (λ b. D x b → L x b) r p.0))

-- the order of xs by f is strict on dependent pairs, and that of ys agrees with f
pub one_trace_by : {X : Type 0} {xs ys : List X} (D : X → X → Type 0) (f : X → ℕ)
    → ((a b : X) → D a b → D b a)
    → Perm xs ys → Pairs (λ a b. D a b → f a < f b) xs → Pairs (λ a b. D a b → f a ≤ f b) ys
    → Exchanges (λ a b. D a b → ⊥) xs ys
one_trace_by {X} {xs} {ys} D f s r p q =
    one_trace D (λ a b. f a < f b) s (λ a b h k. omega arith) r p
    (pairs_both (λ a b. D a b → f a ≢ f b) (λ a b. D a b → f a ≤ f b) (λ a b. D a b → f a < f b) (λ a b n l d. let m = n d in let k = l d in omega arith) ys
    (pairs_perm (λ a b. D a b → f a ≢ f b) (λ a b n d. let m = n (s b a d) in omega arith) r (pairs_weaker (λ a b. D a b → f a < f b) (λ a b. D a b → f a ≢ f b) (λ a b l d. let m = l d in omega arith) xs p)) q)

-- sorting by a number, as a fact
pub sort_in : {X : Type 0} (f : X → ℕ) (x : X) (ys : List X) → Pairs (λ a b. f a ≤ f b) ys → (zs : List X) × Insert x ys zs × Pairs (λ a b. f a ≤ f b) zs
sort_in f x [] p = (x ∷ [], here, (tt, tt))
sort_in f x (y ∷ ys) p =
    elim (dec_le (f x) (f y)) [
      | yes h ↦ (x ∷ y ∷ ys, here, ((h, All-weaker (λ b. f y ≤ f b) (λ b. f x ≤ f b) (λ b k. omega arith) ys p.0), p))
      | no n ↦ let r = sort_in f x ys p.1 in (y ∷ r.0, there r.1, (all_insert (λ b. f y ≤ f b) r.1 (omega arith) p.0, r.2))
    ]

pub start-sorted : {X : Type 0} (f : X → ℕ) (xs : List X) → (ys : List X) × Perm xs ys × Pairs (λ a b. f a ≤ f b) ys
start-sorted f [] = ([], none, tt)
start-sorted f (x ∷ xs) = let r = start-sorted f xs in let t = sort_in f x r.0 r.2 in (t.0, more r.1 t.1, t.2)

pub exchanges_map : {X Y : Type 0} {I : X → X → Type 0} (J : Y → Y → Type 0) (f : X → Y) → ((a b : X) → I a b → J (f a) (f b)) → {xs ys : List X} → Exchanges I xs ys → Exchanges J (map f xs) (map f ys)
exchanges_map J f h same = same
exchanges_map J f h (keep w) = keep (exchanges_map J f h w)
exchanges_map J f h (turn {x = x} {y = y} i) = turn (h x y i)
exchanges_map J f h (next w v) = next (exchanges_map J f h w) (exchanges_map J f h v)

pub all_exchanges : {X : Type 0} {I : X → X → Type 0} {xs ys : List X} (P : X → Type 0) → Exchanges I xs ys → AllByRecursion P xs → AllByRecursion P ys
all_exchanges P same a = a
all_exchanges P (keep w) a = (a.0, all_exchanges P w a.1)
all_exchanges P (turn i) a = (a.1.0, (a.0, a.1.1))
all_exchanges P (next w v) a = all_exchanges P v (all_exchanges P w a)

-- Lists made from the numbers below a bound, and joined lists. Assumes nothing.
use Rattle.std.proofs.Common.{◌≡◌, ℕ, zero, suc, ◌<◌, List, [], ◌∷◌, ◌++◌, length, get_or, sym, ◌∙◌, subst, zero-add, arith}
use Rattle.std.specs.List.{range_with_len, flat_map, AllByRecursion}
use Rattle.std.proofs.lemmas.List.FromFn.{length-range_with_len, get_or-range_with_len}
use Rattle.std.proofs.ByRecursion.{All-append, All-from_get_or}
use Rattle.orders.specs.Perms.{Insert, here, there, Perm, none, more}
use Rattle.orders.specs.Lists.{Pairs, AnyByRecursion}
use Rattle.orders.proofs.Perms.{perm_refl, perm_trans, perm_swap_parts, perm_after, some_left, some_right}
use Rattle.orders.proofs.Lists.{pairs_from-get_or}

below_at : (n k d : ℕ) → k < n → get_or (range_with_len 0 n) k d ≡ k
below_at n k d h = get_or-range_with_len 0 n k d h ∙ zero-add k

-- what holds of each number below n
pub all_below : (P : ℕ → Type 0) (n : ℕ) → ((k : ℕ) → k < n → P k) → AllByRecursion P (range_with_len 0 n)
all_below P n h = All-from_get_or P (range_with_len 0 n) 0 (λ k l. let m : k < n = subst (λ j. k < j) (length-range_with_len 0 n) l in subst P (sym (below_at n k 0 m)) (h k m))

-- what holds of each two numbers below n, the lower first
pub pairs_below : (S : ℕ → ℕ → Type 0) (n : ℕ) → ((i j : ℕ) → i < j → j < n → S i j) → Pairs S (range_with_len 0 n)
pairs_below S n h =
    pairs_from-get_or S (range_with_len 0 n) 0
    (λ i j l m. let k : j < n = subst (λ x. j < x) (length-range_with_len 0 n) m in subst (λ x. S x (get_or (range_with_len 0 n) j 0)) (sym (below_at n i 0 (omega arith))) (subst (S i) (sym (below_at n j 0 k)) (h i j l k)))

pub all_joined : {X Y : Type 0} (P : Y → Type 0) (f : X → List Y) (xs : List X) → AllByRecursion (λ x. AllByRecursion P (f x)) xs → AllByRecursion P (flat_map f xs)
all_joined P f [] a = tt
all_joined P f (x ∷ xs) a = All-append P (f x) (flat_map f xs) a.0 (all_joined P f xs a.1)

pub some_joined : {X Y : Type 0} (P : Y → Type 0) (f : X → List Y) (xs : List X) (k : ℕ) (d : X) → k < length xs → AnyByRecursion P (f (get_or xs k d)) → AnyByRecursion P (flat_map f xs)
some_joined P f [] k d h s = absurd (omega arith)
some_joined P f (x ∷ xs) zero d h s = some_left P (f x) (flat_map f xs) s
some_joined P f (x ∷ xs) (suc k) d h s = some_right P (f x) (flat_map f xs) (some_joined P f xs k d (omega arith) s)

pub joined_insert : {X Y : Type 0} (f : X → List Y) {x : X} {xs ys : List X} → Insert x xs ys → Perm (f x ++ flat_map f xs) (flat_map f ys)
joined_insert f {x = x} (here {xs = xs}) = perm_refl (flat_map f (x ∷ xs))
joined_insert f {x = x} (there {y = y} {xs = xs} h) = perm_trans (perm_swap_parts (f x) (f y) (flat_map f xs)) (perm_after (f y) (joined_insert f h))

-- a permutation of the parts permutes the whole
pub joined_perm : {X Y : Type 0} (f : X → List Y) {xs ys : List X} → Perm xs ys → Perm (flat_map f xs) (flat_map f ys)
joined_perm f none = none
joined_perm f (more {x = x} p h) = perm_trans (perm_after (f x) (joined_perm f p)) (joined_insert f h)

-- some element of the part of a number below n
pub some_below : {Y : Type 0} (P : Y → Type 0) (f : ℕ → List Y) (n k : ℕ) → k < n → AnyByRecursion P (f k) → AnyByRecursion P (flat_map f (range_with_len 0 n))
some_below P f n k h s = some_joined P f (range_with_len 0 n) k 0 (subst (λ m. k < m) (sym (length-range_with_len 0 n)) h) (subst (λ m. AnyByRecursion P (f m)) (sym (below_at n k 0 h)) s)

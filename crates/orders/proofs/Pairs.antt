-- What holds of each element and of each two. Assumes nothing.
use Rattle.std.proofs.Common.{ℕ, List, [], ◌∷◌, ◌++◌, sym, refl, subst, inl, inr}
use Rattle.std.specs.List.{AllByRecursion}
use Rattle.std.proofs.ByRecursion.{All-weaker}
use Rattle.orders.specs.Perms.{Insert, here, there, Perm, none, more}
use Rattle.orders.specs.Lists.{Pairs, In, Common}
use Rattle.orders.proofs.Perms.{all_insert, all_insert_rest, all_perm}

pub pairs_insert_rest : {X : Type 0} {x : X} {xs ys : List X} (R : X → X → Type 0) → Insert x xs ys → Pairs R ys → Pairs R xs
pairs_insert_rest R here a = a.1
pairs_insert_rest R (there {y = y} i) a = (all_insert_rest (R y) i a.0, pairs_insert_rest R i a.1)

-- a relation that is symmetric holds of the pairs in each order
pub pairs_insert : {X : Type 0} {x : X} {xs ys : List X} (R : X → X → Type 0) → ((a b : X) → R a b → R b a) → Insert x xs ys → AllByRecursion (R x) xs → Pairs R xs → Pairs R ys
pairs_insert R s here a p = (a, p)
pairs_insert {x = x} R s (there {y = y} i) a p = (all_insert (R y) i (s x y a.0) p.0, pairs_insert R s i a.1 p.1)

pub pairs_perm : {X : Type 0} {xs ys : List X} (R : X → X → Type 0) → ((a b : X) → R a b → R b a) → Perm xs ys → Pairs R xs → Pairs R ys
pairs_perm R s none p = tt
pairs_perm R s (more {x = x} q i) p = pairs_insert R s i (all_perm (R x) q p.0) (pairs_perm R s q p.1)

pub pairs_weaker : {X : Type 0} (R S : X → X → Type 0) → ((a b : X) → R a b → S a b) → (xs : List X) → Pairs R xs → Pairs S xs
pairs_weaker R S h [] p = tt
pairs_weaker R S h (x ∷ xs) p = (All-weaker (R x) (S x) (h x) xs p.0, pairs_weaker R S h xs p.1)

pub all_both : {X : Type 0} (P Q S : X → Type 0) → ((a : X) → P a → Q a → S a) → (xs : List X) → AllByRecursion P xs → AllByRecursion Q xs → AllByRecursion S xs
all_both P Q S h [] p q = tt
all_both P Q S h (x ∷ xs) p q = (h x p.0 q.0, all_both P Q S h xs p.1 q.1)

pub pairs_both : {X : Type 0} (P Q S : X → X → Type 0) → ((a b : X) → P a b → Q a b → S a b) → (xs : List X) → Pairs P xs → Pairs Q xs → Pairs S xs
pairs_both P Q S h [] p q = tt
pairs_both P Q S h (x ∷ xs) p q = (all_both (P x) (Q x) (S x) (h x) xs p.0 q.0, pairs_both P Q S h xs p.1 q.1)

pub pairs_given : {X : Type 0} (P : X → Type 0) (R S : X → X → Type 0) → ((a b : X) → P a → P b → R a b → S a b) → (xs : List X) → AllByRecursion P xs → Pairs R xs → Pairs S xs
pairs_given P R S h [] a p = tt
pairs_given P R S h (x ∷ xs) a p = (all_both P (R x) (S x) (λ b q r. h x b a.0 q r) xs a.1 p.0, pairs_given P R S h xs a.1 p.1)

pub pairs_from_all : {X : Type 0} (P : X → Type 0) (S : X → X → Type 0) → ((a b : X) → P a → P b → S a b) → (xs : List X) → AllByRecursion P xs → Pairs S xs
pairs_from_all P S h [] a = tt
pairs_from_all P S h (x ∷ xs) a = (All-weaker P (S x) (λ b q. h x b a.0 q) xs a.1, pairs_from_all P S h xs a.1)

pub all_front : {X : Type 0} (P : X → Type 0) (xs ys : List X) → AllByRecursion P (xs ++ ys) → AllByRecursion P xs
all_front P [] ys a = tt
all_front P (x ∷ xs) ys a = (a.0, all_front P xs ys a.1)

pub all_back : {X : Type 0} (P : X → Type 0) (xs ys : List X) → AllByRecursion P (xs ++ ys) → AllByRecursion P ys
all_back P [] ys a = a
all_back P (x ∷ xs) ys a = all_back P xs ys a.1

pub all_in : (P : ℕ → Type 0) (cs : List ℕ) (c : ℕ) → AllByRecursion P cs → In c cs → P c
all_in P [] c a h = absurd h
all_in P (d ∷ cs) c a (inl e) = subst P (sym e) a.0
all_in P (d ∷ cs) c a (inr h) = all_in P cs c a.1 h

pub all_from_in : (P : ℕ → Type 0) (ls : List ℕ) → ((l : ℕ) → In l ls → P l) → AllByRecursion P ls
all_from_in P [] h = tt
all_from_in P (l ∷ ls) h = (h l (inl refl), all_from_in P ls (λ m k. h m (inr k)))

pub common_sym : (xs ys : List ℕ) → Common xs ys → Common ys xs
common_sym xs ys c = (c.0, c.2, c.1)

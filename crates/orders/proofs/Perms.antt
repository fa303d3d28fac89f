-- The lemmas on permutations. Assumes nothing.
use Rattle.std.proofs.Common.{◌≡◌, ℕ, zero, suc, ◌<◌, List, [], ◌∷◌, ◌++◌, length, get_or, set, sym, refl, ap, ◌∙◌, subst, inl, inr, arith, length-set, get_or-set_other, get_or-set_same}
use native.Mathlib.Decide.{ℕ_discrete as dec_eq}
use Rattle.std.specs.List.{AllByRecursion, swap}
use Rattle.orders.specs.Lists.{AnyByRecursion}
use Rattle.orders.specs.Perms.{Insert, here, there, Perm, none, more}
use Rattle.std.specs.List.Sorted.{IsPermutation}
use Rattle.std.proofs.lemmas.List.Sorted.{IsPermutation-keeps}

-- what holds of a list with x put in holds of x, and of the list
pub all_insert_it : {X : Type 0} {x : X} {xs ys : List X} (P : X → Type 0) → Insert x xs ys → AllByRecursion P ys → P x
all_insert_it P here a = a.0
all_insert_it P (there i) a = all_insert_it P i a.1

pub all_insert_rest : {X : Type 0} {x : X} {xs ys : List X} (P : X → Type 0) → Insert x xs ys → AllByRecursion P ys → AllByRecursion P xs
all_insert_rest P here a = a.1
all_insert_rest P (there i) a = (a.0, all_insert_rest P i a.1)

pub all_insert : {X : Type 0} {x : X} {xs ys : List X} (P : X → Type 0) → Insert x xs ys → P x → AllByRecursion P xs → AllByRecursion P ys
all_insert P here p a = (p, a)
all_insert P (there i) p a = (a.0, all_insert P i p a.1)

pub all_perm : {X : Type 0} {xs ys : List X} (P : X → Type 0) → Perm xs ys → AllByRecursion P xs → AllByRecursion P ys
all_perm P none a = tt
all_perm P (more p i) a = all_insert P i a.0 (all_perm P p a.1)

pub all_perm_back : {X : Type 0} {xs ys : List X} (P : X → Type 0) → Perm xs ys → AllByRecursion P ys → AllByRecursion P xs
all_perm_back P none a = tt
all_perm_back P (more p i) a = (all_insert_it P i a, all_perm_back P p (all_insert_rest P i a))

pub perm_refl : {X : Type 0} (xs : List X) → Perm xs xs
perm_refl [] = none
perm_refl (x ∷ xs) = more (perm_refl xs) here

-- two insertions in the other order
pub insert_two : {X : Type 0} {x y : X} {xs ys zs : List X} → Insert x xs ys → Insert y ys zs → (ws : List X) × Insert y xs ws × Insert x ws zs
insert_two {xs = xs} here here = (_, here, there here)
insert_two here (there j) = (_, j, here)
insert_two (there i) here = (_, here, there (there i))
insert_two (there {y = v} i) (there j) = let r = insert_two i j in (v ∷ r.0, there r.1, there r.2)

pub perm_taken : {X : Type 0} {x : X} {xs ys zs : List X} → Insert x xs ys → Perm ys zs → (ws : List X) × Perm xs ws × Insert x ws zs
perm_taken here (more {ys = ws} p j) = (ws, p, j)
perm_taken (there i) (more p j) = let r = perm_taken i p in let t = insert_two r.2 j in (t.0, more r.1 t.1, t.2)

pub perm_trans : {X : Type 0} {xs ys zs : List X} → Perm xs ys → Perm ys zs → Perm xs zs
perm_trans none q = q
perm_trans (more p i) q = let t = perm_taken i q in more (perm_trans p t.1) t.2

pub perm_front : {X : Type 0} {x : X} {xs ys zs : List X} → Insert x xs ys → Perm xs zs → Perm ys (x ∷ zs)
perm_front here p = more p here
perm_front (there i) (more p j) = more (perm_front i p) (there j)

pub perm_sym : {X : Type 0} {xs ys : List X} → Perm xs ys → Perm ys xs
perm_sym none = none
perm_sym (more p i) = perm_front i (perm_sym p)

pub insert_mid : {X : Type 0} (x : X) (xs ys : List X) → Insert x (xs ++ ys) (xs ++ (x ∷ ys))
insert_mid x [] ys = here
insert_mid x (y ∷ xs) ys = there (insert_mid x xs ys)

pub perm_swap_parts : {X : Type 0} (xs ys zs : List X) → Perm (xs ++ (ys ++ zs)) (ys ++ (xs ++ zs))
perm_swap_parts [] ys zs = perm_refl (ys ++ zs)
perm_swap_parts (x ∷ xs) ys zs = more (perm_swap_parts xs ys zs) (insert_mid x ys (xs ++ zs))

pub perm_after : {X : Type 0} (xs : List X) {ys zs : List X} → Perm ys zs → Perm (xs ++ ys) (xs ++ zs)
perm_after [] p = p
perm_after (x ∷ xs) p = more (perm_after xs p) here

pub perm_before : {X : Type 0} {xs ys : List X} (zs : List X) → Perm xs ys → Perm (xs ++ zs) (ys ++ zs)
perm_before zs none = perm_refl zs
perm_before zs (more p i) = more (perm_before zs p) (insert_before zs i)
  where
    insert_before : {X : Type 0} {x : X} {xs ys : List X} (zs : List X) → Insert x xs ys → Insert x (xs ++ zs) (ys ++ zs)
    insert_before zs here = here
    insert_before zs (there i) = there (insert_before zs i)

-- the element at i goes out and y comes in
pub perm_set : {X : Type 0} (xs : List X) (i : ℕ) (d y : X) → i < length xs → Perm (y ∷ xs) (get_or xs i d ∷ set xs i y)
perm_set [] i d y h = absurd (omega arith)
perm_set (x ∷ xs) zero d y h = more (more (perm_refl xs) here) (there here)
perm_set (x ∷ xs) (suc k) d y h =
    perm_trans (more (more (perm_refl xs) here) (there here))
    (perm_trans (more (perm_set xs k d y (omega arith)) here) (more (more (perm_refl (set xs k y)) here) (there here)))

pub perm_drop : {X : Type 0} {x y : X} {xs ys : List X} → Insert x xs (y ∷ ys) → x ≡ y → Perm xs ys
perm_drop {ys = ys} here e = perm_refl ys
perm_drop {ys = ys} (there {xs = ws} i) e = more (perm_refl ws) (subst (λ z. Insert z ws ys) e i)

pub perm_cancel : {X : Type 0} {x y : X} {xs ys : List X} → Perm (x ∷ xs) (y ∷ ys) → x ≡ y → Perm xs ys
perm_cancel (more p i) e = perm_trans p (perm_drop i e)

pub perm_exchanged : {X : Type 0} (xs : List X) (i j : ℕ) → i < length xs → j < length xs → Perm xs (swap xs i j)
perm_exchanged [] i j h k = none
perm_exchanged (d ∷ xs) i j h k =
    let ys = d ∷ xs in
    let y = get_or ys j d in
    let ws = set ys i y in
    let e : get_or ws j d ≡ y = stays (dec_eq i j) in
    perm_cancel (perm_trans (perm_set ys i d y h)
    (subst (λ z. Perm (get_or ys i d ∷ ws) (z ∷ set ws j (get_or ys i d))) e (perm_set ws j d (get_or ys i d) (subst (λ n. j < n) (sym (length-set ys i y)) k)))) refl
  where
    stays : Dec (i ≡ j) → get_or (set (d ∷ xs) i (get_or (d ∷ xs) j d)) j d ≡ get_or (d ∷ xs) j d
    stays (yes e) = ap (λ n. get_or (set (d ∷ xs) i (get_or (d ∷ xs) j d)) n d) (sym e) ∙ get_or-set_same (d ∷ xs) i (get_or (d ∷ xs) j d) d h
    stays (no n) = get_or-set_other (d ∷ xs) i j (get_or (d ∷ xs) j d) d (λ e. n (sym e))

-- what std's sort says gives a permutation
pub perm_from_shuffled : {X : Type 0} (xs ys : List X) → IsPermutation xs ys → Perm xs ys
perm_from_shuffled xs ys h = IsPermutation-keeps xs (Perm xs) (perm_refl xs) (λ l i j a b p. perm_trans p (perm_exchanged l i j a b)) ys h

pub some_insert_it : {X : Type 0} {x : X} {xs ys : List X} (P : X → Type 0) → Insert x xs ys → P x → AnyByRecursion P ys
some_insert_it P here p = inl p
some_insert_it P (there i) p = inr (some_insert_it P i p)

pub some_insert_rest : {X : Type 0} {x : X} {xs ys : List X} (P : X → Type 0) → Insert x xs ys → AnyByRecursion P xs → AnyByRecursion P ys
some_insert_rest P here s = inr s
some_insert_rest P (there i) (inl p) = inl p
some_insert_rest P (there i) (inr s) = inr (some_insert_rest P i s)

-- some element of a list in another order
pub some_perm : {X : Type 0} {xs ys : List X} (P : X → Type 0) → Perm xs ys → AnyByRecursion P xs → AnyByRecursion P ys
some_perm P none s = s
some_perm P (more p i) (inl h) = some_insert_it P i h
some_perm P (more p i) (inr s) = some_insert_rest P i (some_perm P p s)

pub some_left : {X : Type 0} (P : X → Type 0) (xs ys : List X) → AnyByRecursion P xs → AnyByRecursion P (xs ++ ys)
some_left P [] ys s = absurd s
some_left P (x ∷ xs) ys (inl h) = inl h
some_left P (x ∷ xs) ys (inr s) = inr (some_left P xs ys s)

pub some_right : {X : Type 0} (P : X → Type 0) (xs ys : List X) → AnyByRecursion P ys → AnyByRecursion P (xs ++ ys)
some_right P [] ys s = s
some_right P (x ∷ xs) ys s = inr (some_right P xs ys s)

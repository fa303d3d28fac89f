-- Facts by places, and tests of some element. Assumes nothing.
use Rattle.std.proofs.Common.{◌≡◌, ℕ, zero, suc, ◌+◌, ◌-◌, ◌<◌, ◌≤◌, Bool, true, false, ◌||◌, List, [], ◌∷◌, ◌++◌, length, get_or, take, drop, sym, refl, ap, ◌∙◌, inl, inr, arith}
use Rattle.std.specs.List.{AllByRecursion}
use Rattle.std.proofs.ByRecursion.{All-from_get_or, All-append}
use Rattle.std.proofs.lemmas.List.{take_more, drop-drop}
use Rattle.std.proofs.lemmas.Bool.{or_cases, or_left, or_right, false≢true}
use Rattle.orders.specs.Lists.{Pairs, any}

pub pairs_from-get_or : {X : Type 0} (R : X → X → Type 0) (xs : List X) (d : X) → ((i j : ℕ) → i < j → j < length xs → R (get_or xs i d) (get_or xs j d)) → Pairs R xs
pairs_from-get_or R [] d h = tt
pairs_from-get_or R (x ∷ xs) d h =
    (All-from_get_or (R x) xs d (λ j k. h 0 (suc j) (omega arith) (omega arith)), pairs_from-get_or R xs d (λ i j k l. h (suc i) (suc j) (omega arith) (omega arith)))

pub any-has : {X : Type 0} (test : X → Bool) (xs : List X) (d : X) → any test xs ≡ true → (k : ℕ) × (k < length xs) × (test (get_or xs k d) ≡ true)
any-has test [] d e = absurd (false≢true e)
any-has test (x ∷ xs) d e =
    elim (or_cases (test x) (any test xs) e) [ inl h ↦ (0, omega arith, h) | inr h ↦ let r = any-has test xs d h in (suc r.0, omega (arith, r.1), r.2) ]

pub any-from : {X : Type 0} (test : X → Bool) (xs : List X) (d : X) (k : ℕ) → k < length xs → test (get_or xs k d) ≡ true → any test xs ≡ true
any-from test [] d k l e = absurd (omega arith)
any-from test (x ∷ xs) d zero l e = or_left (test x) (any test xs) e
any-from test (x ∷ xs) d (suc k) l e = or_right (test x) (any test xs) (any-from test xs d k (omega arith) e)

any_push : {X : Type 0} (test : X → Bool) (xs : List X) (x : X) → any test (xs ++ (x ∷ [])) ≡ (test x || any test xs)
any_push test [] x = refl
any_push test (y ∷ ys) x = ap (λ t. test y || t) (any_push test ys x) ∙ or_exchange (test y) (test x) (any test ys)
  where
    or_exchange : (a b c : Bool) → (a || (b || c)) ≡ (b || (a || c))
    or_exchange true true c = refl
    or_exchange true false c = refl
    or_exchange false b c = refl

-- one element more
pub any-more : {X : Type 0} (test : X → Bool) (xs : List X) (i : ℕ) (d : X) → i < length xs → any test (take (i + 1) xs) ≡ (test (get_or xs i d) || any test (take i xs))
any-more test xs i d h = ap (any test) (take_more xs i d h) ∙ any_push test (take i xs) (get_or xs i d)

pub pairs_append : {X : Type 0} (R : X → X → Type 0) (xs ys : List X) → Pairs R xs → Pairs R ys → AllByRecursion (λ x. AllByRecursion (R x) ys) xs → Pairs R (xs ++ ys)
pairs_append R [] ys p q a = q
pairs_append R (x ∷ xs) ys p q a = (All-append (R x) xs ys p.0 a.0, pairs_append R xs ys p.1 q a.1)

-- what is alike from k on is alike from n on
pub drop-later : {X : Type 0} (a b : List X) (k n : ℕ) → k ≤ n → drop k a ≡ drop k b → drop n a ≡ drop n b
drop-later a b k n le h =
    let e : n ≡ k + (n - k) = omega arith in
    ap (λ m. drop m a) e ∙ sym (drop-drop (n - k) k a) ∙ ap (drop (n - k)) h ∙ drop-drop (n - k) k b ∙ ap (λ m. drop m b) (sym e)

-- Keys are in a total order, and a chain of comparisons follows it. Assumes nothing.
use Rattle.std.proofs.Common.{◌≡◌, ℕ, ◌<◌, true, false, cond, ltb, List, [], ◌∷◌, Ordering, Less, Equal, Greater, sym, refl, ap, ◌∙◌, ap₂, inl, inr, arith}
use Rattle.std.specs.Ordering.{MatchOrdering, ordering_then}
use Rattle.std.proofs.lemmas.Bool.{eq-eqb, ne_eqb, lt-ltb, le-ltb, cases_order, true≢false, false≢true}
use Rattle.orders.specs.Ranks.{TotalOrder, compared, precedes, by_key}

-- how the first numbers decide
same_head : (x y : ℕ) (xs ys : List ℕ) → x ≡ y → precedes (x ∷ xs) (y ∷ ys) ≡ precedes xs ys
same_head x y xs ys e = ap (λ t. cond t (precedes xs ys) (ltb x y)) (eq-eqb x y e)

lower_head : (x y : ℕ) (xs ys : List ℕ) → x < y → precedes (x ∷ xs) (y ∷ ys) ≡ true
lower_head x y xs ys l = ap (λ t. cond t (precedes xs ys) (ltb x y)) (ne_eqb x y (λ e. omega arith)) ∙ lt-ltb x y l

higher_head : (x y : ℕ) (xs ys : List ℕ) → y < x → precedes (x ∷ xs) (y ∷ ys) ≡ false
higher_head x y xs ys l = ap (λ t. cond t (precedes xs ys) (ltb x y)) (ne_eqb x y (λ e. omega arith)) ∙ le-ltb x y (omega arith)

pub precedes-one_way : (xs ys : List ℕ) → precedes xs ys ≡ true → precedes ys xs ≡ false
precedes-one_way [] [] h = refl
precedes-one_way [] (y ∷ ys) h = refl
precedes-one_way (x ∷ xs) [] h = absurd (false≢true h)
precedes-one_way (x ∷ xs) (y ∷ ys) h =
    elim (cases_order x y) [
      | inl e ↦ same_head y x ys xs (sym e) ∙ precedes-one_way xs ys (sym (same_head x y xs ys e) ∙ h)
      | inr o ↦ elim o [ inl l ↦ higher_head y x ys xs l | inr l ↦ absurd (false≢true (sym (higher_head x y xs ys l) ∙ h)) ]
    ]

pub precedes-chain : (xs ys zs : List ℕ) → precedes xs ys ≡ false → precedes ys zs ≡ false → precedes xs zs ≡ false
precedes-chain [] [] zs h k = k
precedes-chain [] (y ∷ ys) zs h k = absurd (true≢false h)
precedes-chain (x ∷ xs) [] zs h k = elim zs as (λ z. precedes [] z ≡ false → precedes (x ∷ xs) z ≡ false) [ [] ↦ λ q. refl | z ∷ r ↦ λ q. absurd (true≢false q) ] k
precedes-chain (x ∷ xs) (y ∷ ys) [] h k = refl
precedes-chain (x ∷ xs) (y ∷ ys) (z ∷ zs) h k =
    elim (cases_order x y) [
      | inl e ↦ elim (cases_order y z) [
        | inl f ↦ same_head x z xs zs (e ∙ f) ∙ precedes-chain xs ys zs (sym (same_head x y xs ys e) ∙ h) (sym (same_head y z ys zs f) ∙ k)
        | inr o ↦ elim o [ inl l ↦ absurd (true≢false (sym (lower_head y z ys zs l) ∙ k)) | inr l ↦ higher_head x z xs zs (omega arith) ]
      ]
      | inr o ↦ elim o [
        | inl l ↦ absurd (true≢false (sym (lower_head x y xs ys l) ∙ h))
        | inr l ↦ elim (cases_order y z) [
          | inl f ↦ higher_head x z xs zs (omega arith)
          | inr p ↦ elim p [ inl m ↦ absurd (true≢false (sym (lower_head y z ys zs m) ∙ k)) | inr m ↦ higher_head x z xs zs (omega arith) ]
        ]
      ]
    ]

pub precedes-apart : (xs ys : List ℕ) → precedes xs ys ≡ false → precedes ys xs ≡ false → xs ≡ ys
precedes-apart [] [] h k = refl
precedes-apart [] (y ∷ ys) h k = absurd (true≢false h)
precedes-apart (x ∷ xs) [] h k = absurd (true≢false k)
precedes-apart (x ∷ xs) (y ∷ ys) h k =
    elim (cases_order x y) [
      | inl e ↦ ap₂ ◌∷◌ e (precedes-apart xs ys (sym (same_head x y xs ys e) ∙ h) (sym (same_head y x ys xs (sym e)) ∙ k))
      | inr o ↦ elim o [ inl l ↦ absurd (true≢false (sym (lower_head x y xs ys l) ∙ h)) | inr l ↦ absurd (true≢false (sym (lower_head y x ys xs l) ∙ k)) ]
    ]

-- elements that their keys tell apart are in a total order
pub key_total : {X : Type 0} (key : X → List ℕ) → ((x y : X) → key x ≡ key y → x ≡ y) → TotalOrder (by_key key)
key_total key same = record {
  one_way = λ x y. precedes-one_way (key x) (key y);
  chain = λ x y z. precedes-chain (key x) (key y) (key z);
  apart = λ x y h k. same x y (precedes-apart (key x) (key y) h k);
}

-- one more comparison in front: r is what `cmp` answers of x and y
then_compared : (x y : ℕ) (xs ys : List ℕ) (r : Ordering) → MatchOrdering r (x < y) (x ≡ y) (y < x) → ordering_then r (compared precedes xs ys) ≡ compared precedes (x ∷ xs) (y ∷ ys)
then_compared x y xs ys Less h = ap (λ t. cond t Less (cond (precedes (y ∷ ys) (x ∷ xs)) Greater Equal)) (sym (lower_head x y xs ys h))
then_compared x y xs ys Equal h = ap₂ (λ s t. cond s Less (cond t Greater Equal)) (sym (same_head x y xs ys h)) (sym (same_head y x ys xs (sym h)))
then_compared x y xs ys Greater h = ap₂ (λ s t. cond s Less (cond t Greater Equal)) (sym (higher_head x y xs ys h)) (sym (lower_head y x ys xs h))

-- a chain of comparisons, by its last one
pub last-compared : (x y : ℕ) (r : Ordering) → MatchOrdering r (x < y) (x ≡ y) (y < x) → r ≡ compared precedes (x ∷ []) (y ∷ [])
last-compared x y Less h = then_compared x y [] [] Less h
last-compared x y Equal h = then_compared x y [] [] Equal h
last-compared x y Greater h = then_compared x y [] [] Greater h

-- and by one more in front of it
pub more-compared : (x y : ℕ) (xs ys : List ℕ) (r s t : Ordering) → MatchOrdering r (x < y) (x ≡ y) (y < x) → s ≡ compared precedes xs ys → t ≡ ordering_then r s → t ≡ compared precedes (x ∷ xs) (y ∷ ys)
more-compared x y xs ys r s t h e f = f ∙ ap (ordering_then r) e ∙ then_compared x y xs ys r h

-- where the first numbers differ, their comparison decides
pub apart-compared : (x y : ℕ) (xs ys : List ℕ) (r : Ordering) → MatchOrdering r (x < y) (x ≡ y) (y < x) → (r ≡ Equal → ⊥) → r ≡ compared precedes (x ∷ xs) (y ∷ ys)
apart-compared x y xs ys Less h n = then_compared x y xs ys Less h
apart-compared x y xs ys Equal h n = absurd (n refl)
apart-compared x y xs ys Greater h n = then_compared x y xs ys Greater h

-- where they agree, what follows decides
pub same-compared : (x y : ℕ) (xs ys : List ℕ) (r s : Ordering) → MatchOrdering r (x < y) (x ≡ y) (y < x) → r ≡ Equal → s ≡ compared precedes xs ys → s ≡ compared precedes (x ∷ xs) (y ∷ ys)
same-compared x y xs ys r s h e f = f ∙ ap (λ t. ordering_then t (compared precedes xs ys)) (sym e) ∙ then_compared x y xs ys r h

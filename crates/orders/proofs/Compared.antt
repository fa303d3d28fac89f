-- What `cmp` answers under a total order. Assumes nothing.
use Rattle.std.proofs.Common.{◌≡◌, Bool, true, false, cond, Decides, Ordering, Less, Equal, Greater, sym, refl, ap, ◌∙◌, subst, ap₂}
use Rattle.std.specs.Ordering.{is_eq, is_lt, ordering_reverse}
use Rattle.std.specs.Cmp.{IsTotalOrder}
use Rattle.std.proofs.lemmas.Bool.{false≢true}
use Rattle.orders.specs.Ranks.{TotalOrder, compared}

module _ {X : Type 0} {before : X → X → Bool} (o : TotalOrder before) where
  -- none comes before itself
  pub irreflexive : (x : X) → before x x ≡ false
  irreflexive x = go (before x x) refl
    where
      go : (b : Bool) → before x x ≡ b → before x x ≡ false
      go true e = o.one_way x x e
      go false e = e

  -- `Equal` is answered exactly of one and the same
  pub equal_decides : (x y : X) → Decides (is_eq (compared before x y)) (x ≡ y)
  equal_decides x y = (go (before x y) (before y x) refl refl, λ e. subst (λ z. is_eq (compared before x z) ≡ true) e (ap (λ b. is_eq (cond b Less (cond b Greater Equal))) (irreflexive x)))
    where
      go : (a b : Bool) → before x y ≡ a → before y x ≡ b → is_eq (compared before x y) ≡ true → x ≡ y
      go true b e f h = absurd (false≢true (sym (ap (λ t. is_eq (cond t Less (cond (before y x) Greater Equal))) e) ∙ h))
      go false true e f h = absurd (false≢true (sym (ap₂ (λ s t. is_eq (cond s Less (cond t Greater Equal))) e f) ∙ h))
      go false false e f h = o.apart x y e f

-- `Less` is answered exactly where the first comes before the second
pub less_is : {X : Type 0} (before : X → X → Bool) (x y : X) → is_lt (compared before x y) ≡ before x y
less_is before x y = go (before x y) (before y x)
  where
    go : (a b : Bool) → is_lt (cond a Less (cond b Greater Equal)) ≡ a
    go true b = refl
    go false true = refl
    go false false = refl

-- the same of a `cmp` that answers by the order
pub less_by : {X : Type 0} (before : X → X → Bool) (cmp : X → X → Ordering) → ((x y : X) (r : Ordering) → r ≡ cmp x y → r ≡ compared before x y) → (x y : X) → is_lt (cmp x y) ≡ before x y
less_by before cmp h x y = ap is_lt (h x y (cmp x y) refl) ∙ less_is before x y

-- `cmp` under a total order is a total order in the words of the library
pub compared_total : {X : Type 0} {before : X → X → Bool} → TotalOrder before → IsTotalOrder (compared before)
compared_total {X} {before} o = record {
  antisymm = λ x y. turned x y (before x y) (before y x) refl refl;
  trans = λ x y z p q. less x y z (comes x y p) (comes y z q);
  congr = λ x y z e. ap (λ v. compared before v z) ((equal_decides o x y).0 (ap is_eq e));
}
  where
    turned : (x y : X) (a b : Bool) → before x y ≡ a → before y x ≡ b → compared before x y ≡ ordering_reverse (compared before y x)
    turned x y true true e f = absurd (false≢true (sym (o.one_way x y e) ∙ f))
    turned x y true false e f = ap₂ (λ s t. cond s Less (cond t Greater Equal)) e f ∙ sym (ap₂ (λ s t. ordering_reverse (cond t Less (cond s Greater Equal))) e f)
    turned x y false true e f = ap₂ (λ s t. cond s Less (cond t Greater Equal)) e f ∙ sym (ap₂ (λ s t. ordering_reverse (cond t Less (cond s Greater Equal))) e f)
    turned x y false false e f = ap₂ (λ s t. cond s Less (cond t Greater Equal)) e f ∙ sym (ap₂ (λ s t. ordering_reverse (cond t Less (cond s Greater Equal))) e f)

    comes : (x y : X) → compared before x y ≡ Less → before x y ≡ true
    comes x y p = sym (less_is before x y) ∙ ap is_lt p

    less_from : (x z : X) → before x z ≡ true → compared before x z ≡ Less
    less_from x z e = ap (λ s. cond s Less (cond (before z x) Greater Equal)) e

    less_or : (x y z : X) (a : Bool) → before x z ≡ a → before x y ≡ true → before y z ≡ true → compared before x z ≡ Less
    less_or x y z true e p q = less_from x z e
    less_or x y z false e p q = absurd (false≢true (sym (o.chain x z y e (o.one_way y z q)) ∙ p))

    less : (x y z : X) → before x y ≡ true → before y z ≡ true → compared before x z ≡ Less
    less x y z = less_or x y z (before x z) refl

-- The numbers that are told are themselves a lawful model, which takes every kind. Assumes nothing.
use Rattle.std.proofs.Common.{◌≡◌, ℕ, Bool, true, false, eqb, ◌≢◌, sym, refl, ap, ◌∙◌, inl, inr, eq-eqb, ne_eqb, rules, arith}
use mathlib.Core.Path.{fun_ext}
use native.Mathlib.Decide.{ℕ_discrete}
use lib.Bits.{bit_xor, xor_comm, xor_assoc, xor_self}
use Rattle.orders.specs.Lists.{In, Common}
use Rattle.circuit.specs.declared.action.Action.{Action}
use Rattle.register.specs.Rows.{flips}
use Rattle.circuit.specs.Actions.{wires, carry, exchanged}
use Rattle.register.specs.Models.{swapped, Model}
use Rattle.register.specs.Numbers.{marked, renumbered}

abbrev State : Type 0
State = ℕ → ℕ

module _ (mark : ℕ) where
  abbrev act : Action → State → State
  act = renumbered mark

  cnots_apart : (a b c d : ℕ) (s : State) → b ≢ d → a ≢ d → b ≢ c → act (Action.Cnot a b) (act (Action.Cnot c d) s) ≡ act (Action.Cnot c d) (act (Action.Cnot a b) s)
  cnots_apart a b c d s u v w = search rules

  marks_apart : (f g : Bool) (a c : ℕ) (s : State) → a ≢ c → marked f mark a (marked g mark c s) ≡ marked g mark c (marked f mark a s)
  marks_apart f g a c s n = search rules

  mark_cnot : (f : Bool) (a c d : ℕ) (s : State) → a ≢ c → a ≢ d → marked f mark a (act (Action.Cnot c d) s) ≡ act (Action.Cnot c d) (marked f mark a s)
  mark_cnot f a c d s v u = search rules

  pub apart : (x y : Action) (s : State) → (Common (wires x) (wires y) → ⊥) → act x (act y s) ≡ act y (act x s)
  apart (Action.One k a) (Action.One l c) s i = marks_apart (flips k) (flips l) a c s (λ e. i (a, inl refl, inl e))
  apart (Action.One k a) (Action.Cnot c d) s i = mark_cnot (flips k) a c d s (λ e. i (a, inl refl, inl e)) (λ e. i (a, inl refl, inr (inl e)))
  apart (Action.Cnot a b) (Action.One l c) s i = sym (mark_cnot (flips l) c a b s (λ e. i (a, inl refl, inl (sym e))) (λ e. i (b, inr (inl refl), inl (sym e))))
  apart (Action.Cnot a b) (Action.Cnot c d) s i = cnots_apart a b c d s (λ e. i (b, inr (inl refl), inr (inl e))) (λ e. i (a, inl refl, inr (inl e))) (λ e. i (b, inr (inl refl), inl e))

  -- a swap relabels
  two_of : (x y : ℕ) → bit_xor (bit_xor x y) x ≡ y
  two_of x y = grind (arith, xor_comm, xor_assoc, xor_self)

  three_of : (x y : ℕ) → bit_xor (bit_xor (bit_xor x y) x) (bit_xor x y) ≡ x
  three_of x y = grind (arith, two_of, xor_comm, xor_assoc, xor_self)

  swap_is : (a b : ℕ) (s : State) → a ≢ b → swapped act a b s ≡ (λ w. s (exchanged a b w))
  swap_is a b s n = fun_ext (λ w. go w (ℕ_discrete w a) (ℕ_discrete w b))
    where
      ab : eqb a b ≡ false
      ab = ne_eqb a b n

      ba : eqb b a ≡ false
      ba = ne_eqb b a (λ e. n (sym e))

      aa : eqb a a ≡ true
      aa = eq-eqb a a refl

      bb : eqb b b ≡ true
      bb = eq-eqb b b refl

      go : (w : ℕ) → Dec (w ≡ a) → Dec (w ≡ b) → swapped act a b s w ≡ s (exchanged a b w)
      go w (yes e) (yes f) = absurd (n (sym e ∙ f))
      go w (yes e) (no f) = simp (ab, ba, aa, bb, eq-eqb w a e, ne_eqb w b f) (two_of (s a) (s b))
      go w (no e) (yes f) = simp (ab, ba, aa, bb, ne_eqb w a e, eq-eqb w b f) (three_of (s a) (s b))
      go w (no e) (no f) = simp (ab, ba, aa, bb, ne_eqb w a e, ne_eqb w b f)

  exchanged-twice : (a b w : ℕ) → a ≢ b → exchanged a b (exchanged a b w) ≡ w
  exchanged-twice a b w n = search rules

  exchanged_test : (a b w c : ℕ) → a ≢ b → eqb (exchanged a b w) c ≡ eqb w (exchanged a b c)
  exchanged_test a b w c n = search rules

  relabelled_mark : (f : Bool) (a b c : ℕ) (s : State) → a ≢ b → (w : ℕ) → marked f mark c (λ v. s (exchanged a b v)) (exchanged a b w) ≡ marked f mark (exchanged a b c) s w
  relabelled_mark f a b c s n w = search rules

  relabelled : (a b : ℕ) (x : Action) (s : State) → a ≢ b → (w : ℕ) → act x (λ v. s (exchanged a b v)) (exchanged a b w) ≡ act (carry (exchanged a b) x) s w
  relabelled a b x s n w = search (rules, relabelled_mark, exchanged_test, exchanged-twice)

  pub carried : (a b : ℕ) (x : Action) (s : State) → a ≢ b → swapped act a b (act x (swapped act a b s)) ≡ act (carry (exchanged a b) x) s
  carried a b x s n =
      swap_is a b (act x (swapped act a b s)) n ∙ ap (λ r w. act x r (exchanged a b w)) (swap_is a b s n) ∙ fun_ext (relabelled a b x s n)

  pub twice : (a b : ℕ) (s : State) → a ≢ b → swapped act a b (swapped act a b s) ≡ s
  twice a b s n = swap_is a b (swapped act a b s) n ∙ ap (λ r w. r (exchanged a b w)) (swap_is a b s n) ∙ fun_ext (λ w. ap s (exchanged-twice a b w n))

  -- the row of numbers, for n wires
  abbrev pub numbers_model : ℕ → Model
  numbers_model n = record {
    State = State;
    size = λ s. n;
    takes = λ k. true;
    act = act;
    takes_x = refl;
    takes_read = refl;
    keeps = λ x s f. refl;
    idle = λ a s f. refl;
    apart = λ x y s f g i. apart x y s i;
    twice = λ a b s n h k. twice a b s n;
    carried = λ a b x s n h j f. carried a b x s n;
  }

  mark_stays : (f : Bool) (a w : ℕ) (s : State) → w ≢ a → marked f mark a s w ≡ s w
  mark_stays f a w s n = search rules

  -- the number of a wire that the action does not name stays
  pub stays : (x : Action) (w : ℕ) (s : State) → (In w (wires x) → ⊥) → act x s w ≡ s w
  stays x w s n = search rules

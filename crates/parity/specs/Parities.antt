-- The parity register's states and what actions do to them, with the lemmas behind its laws. Assumes nothing.
use Rattle.std.specs.Prelude.{ℕ, ◌^◌, Bool, true, false, cond, ◌≢◌, bit_xor, nat_lt, nat_le}
use Rattle.std.proofs.Common.{refl, sym, ap, ◌∙◌, eq-eqb, arith}
use lib.Bits.{xor_assoc, xor_self, xor_zero_r}
use Rattle.circuit.specs.declared.action.Plain.{Plain}
use Rattle.circuit.specs.declared.action.Single.{Single}
use Rattle.circuit.specs.declared.action.Action.{Action}
use Rattle.register.specs.Numbers.{write, renumbered}
use Rattle.register.specs.Models.{Model, Blank}
use Rattle.register.proofs.Numbers.{apart, carried, twice}

-- a number of wires, and for each wire a word: bit w where its set has the starting wire w, and bit 32 where it is marked
pub record ParityState : Type 0 where
  pub wires : ℕ
  pub words : ℕ → ℕ

-- the mark in a word
abbrev pub mark_of : ℕ
mark_of = 2 ^ 32

-- the state with other words
abbrev pub with_words : ParityState → (ℕ → ℕ) → ParityState
with_words s f = record { wires = s.wires; words = f }

-- the state with a word joined to that of wire t by exclusive or
abbrev pub joined : ℕ → ℕ → ParityState → ParityState
joined v t s = with_words s (write t (bit_xor v (s.words t)) s.words)

-- X changes the mark of its wire, a CNOT joins the control's set and mark to the target's, and a read does nothing
abbrev pub parity_acted : Action → ParityState → ParityState
parity_acted x s = with_words s (renumbered mark_of x s.words)

-- X, reads and CNOTs
abbrev pub parity_takes : Single → Bool
parity_takes Single.H = false
parity_takes (Single.Plain Plain.X) = true
parity_takes (Single.Plain Plain.Y) = false
parity_takes (Single.Plain Plain.Z) = false
parity_takes (Single.Plain Plain.S) = false
parity_takes (Single.Plain Plain.T) = false
parity_takes Single.Read = true

-- the wires of a register that is made: none where too many are asked for
abbrev pub wires_made : ℕ → ℕ
wires_made n = cond (nat_le n 32) n 0

-- each wire as the set of itself, unmarked
abbrev pub blank_state : ℕ → ParityState
blank_state n = record { wires = n; words = λ w. cond (nat_lt w 32) (2 ^ w) 0 }

abbrev pub parity_model : Model
parity_model = record {
  State = ParityState;
  size = λ s. s.wires;
  takes = parity_takes;
  takes_x = refl;
  takes_read = refl;
  act = parity_acted;
  keeps = λ x s f. refl;
  idle = λ a s h. refl;
  apart = λ x y s f g i. ap (with_words s) (apart mark_of x y s.words i);
  twice = λ a b s n h k. ap (with_words s) (twice mark_of a b s.words n);
  carried = λ a b x s n h k f. ap (with_words s) (carried mark_of a b x s.words n);
}

-- a word differs from itself with the mark joined
xor_moves : (x m : ℕ) → m ≢ 0 → bit_xor m x ≢ x
xor_moves x m ne e = ne (sym (xor_zero_r m) ∙ ap (bit_xor m) (sym (xor_self x)) ∙ sym (xor_assoc m x x) ∙ ap (λ z. bit_xor z x) e ∙ xor_self x)

pub x_changes : (w : ℕ) (s : ParityState) → parity_acted (Action.One (Single.Plain Plain.X) w) s ≢ s
x_changes w s e = xor_moves (s.words w) mark_of (omega arith) (ap (λ c. cond c (bit_xor mark_of (s.words w)) (s.words w)) (sym (eq-eqb w w refl)) ∙ ap (λ t. t.words w) e)

abbrev pub parity_blank : Blank parity_model
parity_blank = record {
  blank = blank_state;
  sized = λ s. refl;
  changed = λ s w h. x_changes w (blank_state s.wires);
}

-- The model of an amplitude register, lawful for any rows of the plain gates, with the lemmas behind its laws. Assumes nothing.
use Rattle.std.specs.Prelude.{◌≡◌, ℕ, zero, suc, ◌<◌, Bool, true, false, cond, ◌≢◌, ◌&&◌, ◌==◌, nat_lt, pos, negsuc, refl}
use Rattle.std.proofs.Common.{sym, ap, ◌∙◌, true≢false, ne_eqb, lt-ltb, arith, pow_pos}
use Rattle.circuit.specs.declared.action.Plain.{Plain}
use Rattle.circuit.specs.declared.action.Single.{Single}
use Rattle.circuit.specs.declared.action.Action.{Action}
use Rattle.register.specs.declared.rows.PlainRow.{PlainRow}
use Rattle.register.specs.Rows.{plain_row}
use Rattle.register.specs.Models.{Model, Blank, Fit}
use Rattle.matrices.specs.declared.Amplitude.{Amplitude}
use Rattle.matrices.specs.Numbers.{nought, unit, turned}
use Rattle.bits.specs.Bits.{bit}
use Rattle.matrices.specs.Assignments.{differ}
use Rattle.matrices.specs.Indices.{indices, flipped, flipped_twice}
use Rattle.matrices.specs.Matrices.{multiplied}
use Rattle.matrices.specs.Gates.{acted}
use Rattle.matrices.proofs.Gates.{acted_apart, acted_twice, acted_carried}

-- a number of wires, and for each index an amplitude
pub record State : Type 0 where
  pub wires : ℕ
  pub vector : ℕ → Amplitude

abbrev with_vector : State → (ℕ → Amplitude) → State
with_vector s v = record { wires = s.wires; vector = v }

-- every kind is taken
abbrev pub takes_all : Single → Bool
takes_all k = true

-- the action on the amplitudes, where the plain gates have these rows
abbrev pub act : (Plain → PlainRow) → Action → State → State
act rows x s = record { wires = s.wires; vector = acted indices rows x s.vector }

abbrev pub amplitude_model : (Plain → PlainRow) → Model
amplitude_model rows = record {
  State = State;
  size = λ s. s.wires;
  takes = takes_all;
  takes_x = refl;
  takes_read = refl;
  act = act rows;
  keeps = λ x s f. refl;
  idle = λ a s h. refl;
  apart = λ x y s f g i. ap (with_vector s) (acted_apart indices rows x y s.vector i);
  twice = λ a b s ne h k. ap (with_vector s) (acted_twice indices rows a b s.vector ne);
  carried = λ a b x s ne h k f. ap (with_vector s) (acted_carried indices rows a b x s.vector ne);
}

-- 1 at index 0, where there are wires
abbrev pub blank_vector : ℕ → ℕ → Amplitude
blank_vector n i = cond (i == 0 && nat_lt 0 n) unit nought

abbrev pub blank_state : ℕ → State
blank_state n = record { wires = n; vector = blank_vector n }

-- 1 is not 0
abbrev is_one : Amplitude → Bool
is_one x = elim x.a [ pos n ↦ elim n [ zero ↦ false | suc m ↦ true ] | negsuc n ↦ false ]

unit≢nought : unit ≢ nought
unit≢nought e = true≢false (ap is_one e)

-- a flip with no turn from either bit
no_turn : (b : Bool) (x : Amplitude) → turned (cond (differ true b) 0 0) x ≡ x
no_turn true x = refl
no_turn false x = refl

pub blank_changed : (n w : ℕ) → w < n → act plain_row (Action.One (Single.Plain Plain.X) w) (blank_state n) ≢ blank_state n
blank_changed n w h e =
    let some : zero < n = omega (arith, h) in
    let there : blank_vector n (flipped w (flipped w 0)) ≡ unit = ap (blank_vector n) (flipped_twice w 0) ∙ ap (λ b. cond b unit nought) (lt-ltb 0 n some) in
    let far : flipped w 0 ≢ 0 = λ z. omega (arith, pow_pos w) in
    let here : blank_vector n (flipped w 0) ≡ nought = ap (λ b. cond (b && nat_lt 0 n) unit nought) (ne_eqb (flipped w 0) 0 far) in
    let turn = no_turn (bit (flipped w 0) w) (blank_vector n (flipped w (flipped w 0))) in
    unit≢nought (sym there ∙ sym turn ∙ ap (λ (s : State). s.vector (flipped w 0)) e ∙ here)

-- the blank states
abbrev pub amplitude_blank : Blank (amplitude_model plain_row)
amplitude_blank = record { blank = blank_state; sized = λ s. refl; changed = λ s w h. blank_changed s.wires w h }

-- for any rows: the state after an action that fits is the vector times the action's matrix, H unnormalised, on the same wires
pub record ActsByMatrices (rows : Plain → PlainRow) : Type 0 where
  pub multiplies : (x : Action) (s : State) → Fit s.wires takes_all x → (act rows x s).vector ≡ multiplied indices rows x s.vector
  pub keeps_wires : (x : Action) (s : State) → (act rows x s).wires ≡ s.wires

-- The phase register's model, for any rows of the plain gates of which X's flips. Assumes nothing.
use Rattle.std.specs.Prelude.{◌≡◌, ℕ, Bool, true, false, not, ◌≢◌, refl}
use Rattle.std.proofs.Common.{sym, ap, ◌∙◌}
use Rattle.std.proofs.lemmas.Bool.{false≢true, true≢false}
use Rattle.circuit.specs.declared.action.Plain.{Plain}
use Rattle.circuit.specs.declared.action.Single.{Single}
use Rattle.circuit.specs.declared.action.Action.{Action}
use Rattle.register.specs.declared.rows.PlainRow.{PlainRow}
use Rattle.register.specs.Rows.{plain_row}
use Rattle.register.specs.Models.{Model, Blank}
use Rattle.bits.specs.Bits.{bit}
use Rattle.matrices.specs.Indices.{indices, bit_same}
use Rattle.matrices.specs.Assignments.{flip_if}
use Rattle.phase.specs.Phases.{PhaseState, phase_acted, phase_takes, blank_state}
use Rattle.phase.specs.PhaseLaws.{acted_keeps, acted_apart, acted_twice, acted_carried}

-- the model where the plain gates have these rows
abbrev pub phase_model_of : (Plain → PlainRow) → Model
phase_model_of rows = record {
  State = PhaseState;
  size = λ s. s.wires;
  takes = phase_takes;
  takes_x = refl;
  takes_read = refl;
  act = phase_acted rows;
  keeps = λ x s f. acted_keeps rows x s;
  idle = λ a s h. refl;
  apart = λ x y s f g i. acted_apart rows x y s i;
  twice = λ a b s n h k. acted_twice rows a b s n;
  carried = λ a b x s n h k f. acted_carried rows a b x s n;
}

no_fixed : (b : Bool) → not b ≢ b
no_fixed true e = false≢true e
no_fixed false e = true≢false e

pub x_changes : (rows : Plain → PlainRow) → (rows Plain.X).flips ≡ true → (w : ℕ) (s : PhaseState) → phase_acted rows (Action.One (Single.Plain Plain.X) w) s ≢ s
x_changes rows f w s e = no_fixed (bit s.bits w) (sym (bit_same w s.bits) ∙ ap (λ c. bit (flip_if indices c w s.bits) w) (sym f) ∙ ap (λ t. bit t.bits w) e)

-- its blank states
abbrev pub phase_blank_of : (rows : Plain → PlainRow) → (rows Plain.X).flips ≡ true → Blank (phase_model_of rows)
phase_blank_of rows f = record {
  blank = blank_state;
  sized = λ s. refl;
  changed = λ s w h. x_changes rows f w (blank_state s.wires);
}

-- those of the constant table
abbrev pub phase_model : Model
phase_model = phase_model_of plain_row

abbrev pub phase_blank : Blank phase_model
phase_blank = phase_blank_of plain_row refl

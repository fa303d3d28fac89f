-- What an amplitude register holds. Assumes nothing.
use Rattle.std.specs.Prelude.{◌≡◌, ℕ, ◌&&◌, cond, drop, length, nat_le}
use Rattle.amplitude.specs.declared.amplitudes.AmplitudeRegister.{AmplitudeRegister}
use Rattle.amplitude.specs.Sizes.{used, vector}
use Rattle.amplitude.specs.Models.{State}

-- its state: the number of wires and the amplitudes
abbrev pub state : AmplitudeRegister → State
state r = record { wires = r.wires; vector = vector r.wires r.places.now }

-- how many H were done
abbrev pub done : AmplitudeRegister → ℕ
done r = r.h_done

-- as many wires as are asked for, none if these are more than 10 or have too few of the places
abbrev pub wires_made : ℕ → ℕ → ℕ
wires_made places n = cond (nat_le n 10 && nat_le (used n) places) n 0

-- the same lent places, of which those past the used ones hold what they held
pub record Lent (was then : AmplitudeRegister) : Type 0 where
  pub lender : then.places.ghost_name ≡ was.places.ghost_name
  pub long : length then.places.now ≡ length was.places.now
  pub rest : drop (used was.wires) then.places.now ≡ drop (used was.wires) was.places.now

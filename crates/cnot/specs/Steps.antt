-- The operations of a CNOT along a path. Assumes nothing.
use Rattle.std.specs.Prelude.{◌≡◌, ℕ, ◌+◌, ◌^◌, ◌<◌, ◌≤◌, List, [], ◌∷◌, ◌++◌, map, reverse, length, take, drop, sum_by, Option, nat_lt}
use Rattle.std.specs.List.{flat_map}
use Rattle.circuit.specs.declared.action.Action.{Action}
use Rattle.circuit.specs.declared.operation.Operation.{Operation}
use Rattle.refusal.specs.declared.Refusal.{Refusal}
use Rattle.refusal.specs.Refusals.{refuse_if, or_else}
use Rattle.calibration.specs.declared.table.CalibrationTable.{CalibrationTable}
use Rattle.route.specs.declared.path.Path.{Path}
use Rattle.route.specs.Paths.{path_cells}
use Rattle.cnot.specs.declared.link.Link.{Link}
use Rattle.cnot.specs.declared.write.Writer.{Writer}
use Rattle.cnot.specs.Links.{front, final, times_of, links}

-- an action on cells and how long it lasts
pub record Step : Type 0 where
  pub length : ℕ
  pub action : Action

-- how long steps last, one after another
abbrev pub lasting : List Step → ℕ
lasting ss = sum_by (λ s. s.length) ss

-- a CNOT of a and b that lasts d
abbrev pub cnot : ℕ → ℕ → ℕ → Step
cnot d a b = record { length = d; action = Action.Cnot a b }

-- the CNOT over a link
abbrev pub cnot_over : Link → Step
cnot_over l = cnot l.time l.from l.to

-- the ends of a link exchanged: C a b, C b a, C a b
abbrev pub swap_over : Link → List Step
swap_over l = cnot l.time l.from l.to ∷ cnot l.time l.to l.from ∷ cnot l.time l.from l.to ∷ []

-- a CNOT over links: a swap over each but the last, the CNOT over the last, the same swaps, last first
abbrev pub routed : List Link → List Step
routed ls = flat_map swap_over (front ls) ++ (map cnot_over (final ls) ++ flat_map swap_over (reverse (front ls)))

-- the steps of the gate g as operations from t on, without a gap
abbrev pub placed : ℕ → ℕ → List Step → List Operation
placed g t [] = []
placed g t (s ∷ ss) = record { start = t; length = s.length; action = s.action; gate = g } ∷ placed g (t + s.length) ss

-- a writer has places for n operations more, and time for t more
abbrev pub HasRoom : Writer → ℕ → ℕ → Type 0
HasRoom w n t = (w.at + n ≤ length w.places.now) × (w.time + t < 2 ^ 32)

-- a writer w has written steps and then is v; other places are as they were
pub record Laid (ss : List Step) (w v : Writer) : Type 0 where
  pub same : v.places.ghost_name ≡ w.places.ghost_name
  pub places : length v.places.now ≡ length w.places.now
  pub gate : v.gate ≡ w.gate
  pub at : v.at ≡ w.at + length ss
  pub time : v.time ≡ w.time + lasting ss
  pub front : take v.at v.places.now ≡ take w.at w.places.now ++ placed w.gate w.time ss
  pub rest : drop v.at v.places.now ≡ drop v.at w.places.now

-- why so many operations of the gate g are not written from a start on to so many places: the start is too large, or there are too few
abbrev pub writing_refusal : ℕ → ℕ → ℕ → ℕ → Option Refusal
writing_refusal start g places count = or_else (refuse_if (nat_lt 1000000 start) (Refusal.StartTooLarge g)) (refuse_if (nat_lt places count) Refusal.TooFewPlaces)

-- the operations in the first places, and all others as they were
abbrev pub written_first : List Operation → List Operation → List Operation
written_first was os = os ++ drop (length os) was

-- the steps of a CNOT along a path, by a table of calibration
abbrev pub routed_along : CalibrationTable → Path → List Step
routed_along t p = routed (links (times_of t) (path_cells p))

-- The gates of a plan that breaks no constraint start early enough. Assumes nothing.
use Rattle.std.proofs.Common.{◌≡◌, ℕ, ◌<◌, ◌≤◌, true, refl, inl, inr, arith}
use Rattle.std.proofs.lemmas.Bool.{cases_lt}
use Rattle.std.proofs.lemmas.Bool.Decides.{nat_tests}
use Rattle.orders.specs.Lists.{In}
use Rattle.refusal.specs.declared.Refusal.{Refusal}
use Rattle.circuit.specs.declared.action.Action.{Action}
use Rattle.circuit.specs.Actions.{wires, first_wire}
use Rattle.grid.specs.Grids.{Grid, GridFit}
use Rattle.calibration.specs.declared.values.Calibration.{Calibration}
use Rattle.calibration.specs.Calibrations.{calibration_ok, InRange}
use Rattle.route.specs.Routes.{Route}
use Rattle.plan.specs.Plans.{Plan, gate_count, action_at, labels_at, start_at, home, values_of, window}
use Rattle.plan.specs.Durations.{end_at}
use Rattle.plan.specs.Constraints.{BreaksNone}
use Rattle.plan.proofs.Homes.{home_below}

first_among : (x : Action) → In (first_wire x) (wires x)
first_among (Action.One k l) = inl refl
first_among (Action.Cnot l m) = inl refl

window_few : (g : Grid) (c : ℕ) (v : Calibration) → calibration_ok g c v ≡ true → v.window ≤ 1000000
window_few g c v e = grind (arith, nat_tests)

module _ (p : Plan) (R : Route) (fit : GridFit p.machine) (ranged : InRange p.machine p.calibration) (none : BreaksNone p R) where
  ends_within : (g l : ℕ) → g < gate_count p → In l (labels_at p g) → end_at p R g ≤ window p l
  ends_within g l h i = elim (cases_lt (window p l) (end_at p R g)) [ inl w ↦ absurd (none (Refusal.PastWindow g (home p l)) (h, (l, i, refl), w)) | inr w ↦ w ]

  -- no gate starts after 1,000,000, since no window is longer
  pub starts_early : (g : ℕ) → g < gate_count p → start_at p g ≤ 1000000
  starts_early g h =
      let l = first_wire (action_at p g) in
      let e = ends_within g l h (first_among (action_at p g)) in
      let w = window_few p.machine (home p l) (values_of p (home p l)) (ranged (home p l) (home_below p.machine p.homes l fit)) in
      omega arith

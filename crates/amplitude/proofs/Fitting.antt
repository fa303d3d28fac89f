-- An action that is not off the wires fits. Assumes nothing.
use Rattle.std.proofs.Common.{◌≡◌, ℕ, false, refl, rules}
use Rattle.circuit.specs.declared.action.Action.{Action}
use Rattle.register.specs.Models.{OnWires, Fit}
use Rattle.register.specs.Runs.{is_off_wires}
use Rattle.amplitude.specs.Models.{takes_all}

on_wires-from : (n : ℕ) (x : Action) → is_off_wires n x ≡ false → OnWires n x
on_wires-from n x e = search rules

pub fit_from : (n : ℕ) (x : Action) → is_off_wires n x ≡ false → Fit n takes_all x
fit_from n (Action.One k a) e = record { taken = refl; on_wires = on_wires-from n (Action.One k a) e }
fit_from n (Action.Cnot a b) e = record { taken = refl; on_wires = on_wires-from n (Action.Cnot a b) e }

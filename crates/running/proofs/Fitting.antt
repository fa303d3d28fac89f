-- Where no operation fails a test, none is named. Assumes nothing.
use Rattle.std.proofs.Common.{◌≡◌, ℕ, suc, ◌+◌, ◌<◌, ◌≤◌, Bool, true, false, not, cond, List, [], ◌∷◌, length, get_or, Some, None, refl, ap, ap₂, ◌∙◌, arith}
use Rattle.refusal.specs.declared.Refusal.{Refusal}
use Rattle.refusal.specs.Refusals.{or_else}
use Rattle.circuit.specs.declared.action.Single.{Single}
use Rattle.circuit.specs.declared.operation.Operation.{Operation}
use Rattle.register.specs.Models.{is_taken}
use Rattle.register.specs.Runs.{is_off_wires, at_first, no_operation, operation_at}
use Rattle.running.specs.Fitting.{unfit}

at_none : {X : Type 0} (names : ℕ → Refusal) (test : X → Bool) (i : ℕ) (xs : List X) (d : X) → ((k : ℕ) → k < length xs → test (get_or xs k d) ≡ false) → at_first names test i xs ≡ None
at_none names test i [] d h = refl
at_none names test i (x ∷ xs) d h =
    ap (λ t. cond t (Some (names i)) (at_first names test (i + 1) xs)) (h 0 (omega arith)) ∙ at_none names test (i + 1) xs d (λ k l. h (suc k) (omega arith))

-- the operation is on n wires and its kind is taken
abbrev pub Fits : ℕ → (Single → Bool) → Operation → Type 0
Fits n takes o = (is_off_wires n o.action ≡ false) × (is_taken takes o.action ≡ true)

pub all_fit : (n : ℕ) (takes : Single → Bool) (os : List Operation) (m : ℕ) → length os ≤ m → ((k : ℕ) → k < m → Fits n takes (operation_at os k)) → unfit n takes os ≡ None
all_fit n takes os m h f =
    ap₂ or_else (at_none Refusal.NotOnWires (λ o. is_off_wires n o.action) 0 os no_operation (λ k l. (f k (omega arith)).0))
    (at_none Refusal.KindNotTaken (λ o. not (is_taken takes o.action)) 0 os no_operation (λ k l. ap not (f k (omega arith)).1))

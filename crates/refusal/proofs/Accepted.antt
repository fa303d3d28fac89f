-- What is known where nothing refuses. Assumes nothing.
use Rattle.std.proofs.Common.{◌≡◌, Bool, false, None, Ok, Err, Option, rules}
use Rattle.refusal.specs.declared.Refusal.{Refusal}
use Rattle.refusal.specs.Refusals.{refuse_if, or_else, ok_unless}

-- the test failed
pub passed : (t : Bool) (r : Refusal) → refuse_if t r ≡ None → t ≡ false
passed t r e = search rules

-- neither refuses
pub neither : (a b : Option Refusal) → or_else a b ≡ None → (a ≡ None) × (b ≡ None)
neither a b e = search rules

-- an `Ok` was not refused
pub accepted : {X : Type 0} (o : Option Refusal) (x y : X) → Ok y ≡ ok_unless o x → o ≡ None
accepted o x y e = search rules

-- what refuses first refuses the whole
pub refused_first : {X Y : Type 0} (o rest : Option Refusal) (x : X) (v : Y) (r : Refusal) → Err r ≡ ok_unless o x → Err r ≡ ok_unless (or_else o rest) v
refused_first o rest x v r e = search rules

-- What a refusal of a part says of the whole. Assumes nothing.
use Rattle.std.proofs.Common.{◌≡◌, Err, Option, rules}
use Rattle.refusal.specs.declared.Refusal.{Refusal}
use Rattle.refusal.specs.Refusals.{ok_unless}

-- what is refused is refused whatever it would have answered
pub refused_alike : {X Y : Type 0} (o : Option Refusal) (x : X) (y : Y) (r : Refusal) → Err r ≡ ok_unless o x → Err r ≡ ok_unless o y
refused_alike o x y r e = search rules

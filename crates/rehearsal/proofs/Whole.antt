-- What a rehearsal promises of listings. Assumes nothing.
use Rattle.std.proofs.Common.{◌≡◌, ℕ, ◌+◌, true, List, length, take, is_ok, if◌then◌else◌, Some, None, Ok, Err, Option, Result, sym, refl, ap, ◌∙◌, subst}
use Rattle.orders.specs.Perms.{Perm}
use Rattle.circuit.specs.declared.operation.Operation.{Operation}
use Rattle.circuit.specs.declared.operation.Reading.{Reading}
use Rattle.circuit.specs.Operations.{h_count, read_count}
use Rattle.refusal.specs.declared.Refusal.{Refusal}
use Rattle.refusal.specs.Refusals.{ok_unless}
use Rattle.plan.specs.Blocks.{direct}
use Rattle.register.specs.Models.{Model, after}
use Rattle.register.specs.Numbers.{tells}
use Rattle.register.specs.Runs.{capacity, running_refusal}
use Rattle.register.proofs.Refusals.{accepted}
use Rattle.promise.proofs.Whole.{handed_agrees, handed_h, handed_reads, handed_tells}
use Rattle.rehearsal.specs.Rehearsals.{told_first, ForEachListing, RanDirectly}
use Rattle.rehearsal.proofs.Steps.{length-tells, told_front}

-- a result that is no error was not refused
ok_none : {X : Type 0} (o : Option Refusal) (x : X) (r : Result X Refusal) → r ≡ ok_unless o x → is_ok r ≡ true → o ≡ None
ok_none None x r e h = refl
ok_none (Some p) x r e h = cc

ok_is : {X : Type 0} (o : Option Refusal) (x : X) (r : Result X Refusal) → r ≡ ok_unless o x → is_ok r ≡ true → r ≡ Ok x
ok_is None x r e h = e
ok_is (Some p) x r e h = cc

if_ok : {X Y : Type 0} (r : Result X Refusal) (a b t : Y) → t ≡ (if is_ok r then a else b) → is_ok r ≡ true → t ≡ a
if_ok (Ok x) a b t e h = e
if_ok (Err p) a b t e h = cc

-- a run that was not refused ends as the direct run
pub ran_directly : (M : Model) (most : ℕ) (s : M.State) (done : ℕ) (places : Option ℕ) (os : List Operation) (r : Result ℕ Refusal) (t : M.State) (later : ℕ)
    → r ≡ ok_unless (running_refusal (capacity M most s done places) os) (read_count os) → t ≡ (if is_ok r then after M os s else s) → later ≡ (if is_ok r then done + h_count os else done)
    → is_ok r ≡ true → ForEachListing os (λ b. RanDirectly M b.plan s done r t later)
ran_directly M most s done places os r t later answer acted counted ok e h b R ls out lawful order =
    let k = accepted (capacity M most s done places) os (ok_none _ (read_count os) r answer ok) in record {
      reads = ok_is _ (read_count os) r answer ok ∙ ap Ok (handed_reads os R lawful out order);
      state = if_ok r (after M os s) s t acted ok ∙ handed_agrees M s os R lawful out order k.fits;
      count = if_ok r (done + h_count os) done later counted ok ∙ ap (λ n. done + n) (handed_h os R lawful out order);
    }

-- and its readings are those of the direct run
pub told_directly : (M : Model) (most : ℕ) (s : M.State) (done : ℕ) (mark : ℕ) (row : ℕ → ℕ) (os : List Operation) (r : Result ℕ Refusal) (was now : List Reading)
    → r ≡ ok_unless (running_refusal (capacity M most s done (Some (length was))) os) (read_count os) → now ≡ (if is_ok r then told_first was (tells mark os row) else was)
    → is_ok r ≡ true → ForEachListing os (λ b. Perm (take (read_count os) now) (tells mark (direct b.plan) row))
told_directly M most s done mark row os r was now answer written ok e h b R ls out lawful order =
    let k = accepted (capacity M most s done (Some (length was))) os (ok_none _ (read_count os) r answer ok) in
    let front : take (read_count os) now ≡ tells mark os row = ap (take (read_count os)) (if_ok r (told_first was (tells mark os row)) was now written ok) ∙ told_front was (tells mark os row) (read_count os) (length-tells mark os row) in
    subst (λ l. Perm l (tells mark (direct b.plan) row)) (sym front) (handed_tells M (M.size s) mark row os R lawful out order k.fits)

-- A queue that several elements have joined. Assumes nothing.
use Rattle.std.specs.Prelude.{◌≡◌, ◌+◌, ◌-◌, Bool, List, length, take, Option, nat_lt}
use Rattle.refusal.specs.declared.Refusal.{Refusal}
use Rattle.refusal.specs.Refusals.{refuse_if}
use Rattle.orders.specs.Sorting.{put_in_all}
use Rattle.queue.specs.declared.Queue.{Queue}
use Rattle.queue.specs.Held.{count, room, held, Lent}

-- the elements of xs have joined the first queue, which then is the second; no other place was written
pub record Joined {X : Type 0} (before : X → X → Bool) (xs : List X) (was then : Queue X) : Type 0 where
  pub lent : Lent (count then) was then
  pub counted : count then ≡ count was + length xs
  pub joined : held before then ≡ put_in_all before (held before was) xs

-- those of the first elements that find a place
abbrev pub with_place : {X : Type 0} → Queue X → List X → List X
with_place q xs = take (room q - count q) xs

-- why not all elements join: there is a place too few
abbrev pub joining_refusal : {X : Type 0} → Queue X → List X → Option Refusal
joining_refusal q xs = refuse_if (nat_lt (room q) (count q + length xs)) Refusal.TooFewPlaces

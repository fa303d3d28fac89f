-- What the calls answer a C program. Assumes nothing.
use Rattle.std.specs.Prelude.{◌≡◌, ℕ, List, Result, Ok, Err}
use Rattle.embedded.specs.declared.failure.Failure.{Failure}
use Rattle.embedded.specs.Runs.{Measured, Run}

-- the status: 0 where it is done, 1 where there are too few places, 2 where there is no memory
abbrev pub status_of : Result ℕ Failure → ℕ
status_of (Ok n) = 0
status_of (Err (Failure.TooSmall n)) = 1
status_of (Err Failure.NoMemory) = 2

-- what the count holds then: how many bytes the replies have, and what it held where there was no memory
abbrev pub count_after : Result ℕ Failure → ℕ → ℕ
count_after (Ok n) was = n
count_after (Err (Failure.TooSmall n)) was = n
count_after (Err Failure.NoMemory) was = was

-- the replies to the text were counted
abbrev pub MeasureCalled : List ℕ → ℕ → ℕ → ℕ → Type 0
MeasureCalled text was now status = (r : Result ℕ Failure) × Measured text r × (now ≡ count_after r was) × (status ≡ status_of r)

-- the text was run into the places
abbrev pub RunCalled : List ℕ → List ℕ → List ℕ → ℕ → ℕ → ℕ → Type 0
RunCalled text places left was now status = (r : Result ℕ Failure) × Run text places left r × (now ≡ count_after r was) × (status ≡ status_of r)

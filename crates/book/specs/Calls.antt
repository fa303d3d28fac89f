-- The calls of a job. Assumes nothing.
use Rattle.std.specs.Prelude.{◌≡◌, ℕ, Bool, true, false, not}
use Rattle.calibration.specs.declared.values.Calibration.{Calibration}
use Rattle.route.specs.Routes.{Route}
use Rattle.register.specs.Runs.{Capacity}
use Rattle.book.specs.Books.{Book}

-- each call with its arguments; of a rule and a register what they mean
pub data Call : Type 0 where
  add : (letter one two : ℕ) → Call
  close : Call
  calibrate : (cell : ℕ) (values : Calibration) → Call
  place : (label cell : ℕ) → Call
  time : (gate start choice : ℕ) → Call
  try : (rule : Route) (gate start choice : ℕ) → Call
  judge : (rule : Route) → Call
  agenda : (places : ℕ) → Call
  list : (rule : Route) (places : ℕ) → Call
  run : (on : Capacity) → Call
  reopen : Call

-- the calls of an open program
abbrev pub is_open_call : Call → Bool
is_open_call (add letter one two) = true
is_open_call close = true
is_open_call (calibrate cell values) = false
is_open_call (place label cell) = false
is_open_call (time gate start choice) = false
is_open_call (try rule gate start choice) = false
is_open_call (judge rule) = false
is_open_call (agenda places) = false
is_open_call (list rule places) = false
is_open_call (run on) = false
is_open_call reopen = false

-- an open program takes adding and closing, a closed one all else
abbrev pub Callable : Book → Call → Type 0
Callable b c = is_open_call c ≡ not b.closed

-- Jobs made by lists of calls. Assumes nothing.
use Rattle.std.specs.Prelude.{ℕ, List, [], ◌∷◌}
use Rattle.circuit.specs.declared.action.Action.{Action}
use Rattle.circuit.specs.declared.operation.Operation.{Operation}
use Rattle.calibration.specs.declared.values.Calibration.{Calibration}
use Rattle.book.specs.Books.{Book, opening}
use Rattle.book.specs.Calls.{Call, add, close, calibrate, place, time}
use Rattle.book.specs.Histories.{fed}

-- the book after calls, one after another
abbrev pub fed_all : Book → List Call → Book
fed_all b [] = b
fed_all b (c ∷ cs) = fed_all (fed b c) cs

-- a cell's calibration by its five values
abbrev pub values : ℕ → ℕ → ℕ → ℕ → ℕ → Calibration
values s r w e t = record { single = s; read = r; window = w; east = e; south = t }

-- a CNOT of two labels, its homes two cells apart, over links that take 2 and 3
abbrev pub distant : List Call
distant = add 67 0 1 ∷ close ∷ calibrate 0 (values 1 1 100 2 0) ∷ calibrate 1 (values 1 1 100 3 0) ∷ place 0 0 ∷ place 1 2 ∷ time 0 5 0 ∷ []

-- its book
abbrev pub distant_book : Book
distant_book = fed_all (opening 3 1 2) distant

-- a CNOT of gate 0 at t, d long, from a to b
abbrev pub cnot_at : ℕ → ℕ → ℕ → ℕ → Operation
cnot_at t d a b = record { start = t; length = d; action = Action.Cnot a b; gate = 0 }

-- its listing
abbrev pub distant_listing : List Operation
distant_listing = cnot_at 5 2 0 1 ∷ cnot_at 7 2 1 0 ∷ cnot_at 9 2 0 1 ∷ cnot_at 11 3 1 2 ∷ cnot_at 14 2 0 1 ∷ cnot_at 16 2 1 0 ∷ cnot_at 18 2 0 1 ∷ []

-- a program with no gate
abbrev pub no_gates : Book
no_gates = fed_all (opening 3 1 2) (close ∷ [])

-- H at 0 and X at s on one label
abbrev pub two_gates : ℕ → Book
two_gates s = fed_all (opening 1 1 1) (add 72 0 0 ∷ add 88 0 0 ∷ close ∷ place 0 0 ∷ time 0 0 0 ∷ time 1 s 0 ∷ [])

-- a CNOT from cell 0 to cell 2, and H at s on a third label between them
abbrev pub third_label : ℕ → Book
third_label s = fed_all (opening 3 1 3) (add 67 0 1 ∷ add 72 2 0 ∷ close ∷ place 0 0 ∷ place 1 2 ∷ place 2 1 ∷ time 0 0 0 ∷ time 1 s 0 ∷ [])

-- a CNOT from corner to corner of a square, under the choice c
abbrev pub corners : ℕ → Book
corners c = fed_all (opening 2 2 2) (add 67 0 1 ∷ close ∷ place 0 0 ∷ place 1 3 ∷ time 0 0 c ∷ [])

-- a program of one read
abbrev pub one_read : Book
one_read = fed_all (opening 1 1 1) (add 82 0 0 ∷ [])

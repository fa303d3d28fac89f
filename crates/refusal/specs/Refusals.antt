-- The refusals' numbers and places. Assumes nothing.
use Rattle.std.specs.Prelude.{ℕ, Bool, cond, Some, None, Ok, Err, Option, Result}
use Rattle.refusal.specs.declared.Refusal.{Refusal}
use Rattle.refusal.specs.declared.Shown.{Shown}

-- the number and the two places as they are shown
abbrev pub shown_as : ℕ → ℕ → ℕ → Shown
shown_as n i j = record { number = n; first = i; second = j }

-- the number of a refusal and the two places that it names, 0 where it names none
abbrev pub shown : Refusal → Shown
shown Refusal.MachineSize = shown_as 1 0 0
shown Refusal.LabelCount = shown_as 2 0 0
shown Refusal.UnknownKind = shown_as 3 0 0
shown (Refusal.NoSuchLabel l) = shown_as 4 l 0
shown Refusal.SameLabel = shown_as 5 0 0
shown (Refusal.AlreadyRead l) = shown_as 6 l 0
shown Refusal.ProgramFull = shown_as 7 0 0
shown (Refusal.NoSuchCell c) = shown_as 8 c 0
shown (Refusal.ValueOutOfRange c) = shown_as 9 c 0
shown (Refusal.NoSuchGate g) = shown_as 10 g 0
shown (Refusal.StartTooLarge g) = shown_as 11 g 0
shown (Refusal.ChoiceTooLarge g) = shown_as 12 g 0
shown (Refusal.NoHome l) = shown_as 21 l 0
shown (Refusal.SharedHome l m) = shown_as 22 l m
shown (Refusal.NoTiming g) = shown_as 23 g 0
shown (Refusal.ChoiceNotOffered g) = shown_as 24 g 0
shown (Refusal.TooEarly i j) = shown_as 25 i j
shown (Refusal.Overlap i j) = shown_as 26 i j
shown (Refusal.PastWindow g c) = shown_as 27 g c
shown Refusal.TooFewPlaces = shown_as 31 0 0
shown (Refusal.NotOnWires i) = shown_as 41 i 0
shown (Refusal.KindNotTaken i) = shown_as 42 i 0
shown Refusal.TooManyH = shown_as 43 0 0
shown Refusal.MalformedLine = shown_as 51 0 0
shown Refusal.WrongState = shown_as 52 0 0
shown Refusal.NoMemory = shown_as 60 0 0

-- the number of a refusal
abbrev pub number : Refusal → ℕ
number r = (shown r).number

-- the refusal, where the test holds
abbrev pub refuse_if : Bool → Refusal → Option Refusal
refuse_if t r = cond t (Some r) None

-- the first refusal, or else the second
abbrev pub or_else : Option Refusal → Option Refusal → Option Refusal
or_else (Some r) o = Some r
or_else None o = o

-- the value, unless refused
abbrev pub ok_unless : {X : Type 0} → Option Refusal → X → Result X Refusal
ok_unless (Some r) x = Err r
ok_unless None x = Ok x

-- Commands and the lines that say them. Assumes nothing.
use Rattle.std.specs.Prelude.{◌≡◌, ◌≢◌, ℕ, ◌≤◌, List, [], ◌∷◌, length, Option, Some, None, MatchOption}
use Rattle.std.specs.List.{AllByRecursion}
use Rattle.circuit.specs.declared.action.Action.{Action}
use Rattle.circuit.specs.Actions.{action_of, wires, target_or_zero}
use Rattle.numbers.specs.Numbers.{IsShort, spaced_all}
use Rattle.command.specs.declared.command.Command.{Command}

-- the labels that a gate of this kind names on its line
abbrev pub gate_labels : Option Action → List ℕ
gate_labels None = []
gate_labels (Some x) = wires x

-- the kind is one that there is, and the second label is 0 where it is on no line
abbrev pub GateFits : Option Action → ℕ → Type 0
GateFits None two = ⊥
GateFits (Some x) two = two ≡ target_or_zero x

-- the letter that a command's line begins with, as its ASCII code
abbrev pub command_letter : Command → ℕ
command_letter (Command.Open w h p) = 111
command_letter (Command.Add l a b) = l
command_letter Command.Close = 101
command_letter Command.Reopen = 110
command_letter (Command.Calibrate c v) = 107
command_letter (Command.Place l c) = 112
command_letter (Command.Time g s c) = 116
command_letter (Command.Try g s c) = 121
command_letter Command.Judge = 106
command_letter Command.Agenda = 97
command_letter Command.List = 108

-- the numbers that follow
abbrev pub command_numbers : Command → List ℕ
command_numbers (Command.Open w h p) = w ∷ h ∷ p ∷ []
command_numbers (Command.Add l a b) = gate_labels (action_of l a b)
command_numbers Command.Close = []
command_numbers Command.Reopen = []
command_numbers (Command.Calibrate c v) = c ∷ v.single ∷ v.read ∷ v.window ∷ v.east ∷ v.south ∷ []
command_numbers (Command.Place l c) = l ∷ c ∷ []
command_numbers (Command.Time g s c) = g ∷ s ∷ c ∷ []
command_numbers (Command.Try g s c) = g ∷ s ∷ c ∷ []
command_numbers Command.Judge = []
command_numbers Command.Agenda = []
command_numbers Command.List = []

-- the line of a command: its letter, then each number in decimal after a space
abbrev pub command_text : Command → List ℕ
command_text c = command_letter c ∷ spaced_all (command_numbers c)

-- a gate's letter names a kind
abbrev pub LetterFits : Command → Type 0
LetterFits (Command.Open w h p) = Unit {0}
LetterFits (Command.Add l a b) = GateFits (action_of l a b) b
LetterFits Command.Close = Unit {0}
LetterFits Command.Reopen = Unit {0}
LetterFits (Command.Calibrate c v) = Unit {0}
LetterFits (Command.Place l c) = Unit {0}
LetterFits (Command.Time g s c) = Unit {0}
LetterFits (Command.Try g s c) = Unit {0}
LetterFits Command.Judge = Unit {0}
LetterFits Command.Agenda = Unit {0}
LetterFits Command.List = Unit {0}

-- a command that a line can say: a gate's letter names a kind, and each number has at most seven digits
abbrev pub HasText : Command → Type 0
HasText c = LetterFits c × AllByRecursion IsShort (command_numbers c)

-- the line says the command
abbrev pub IsTextOf : Command → List ℕ → Type 0
IsTextOf c line = HasText c × (line ≡ command_text c)

-- r is the command that the line says, or none where it says no command
abbrev pub CommandRead : List ℕ → Option Command → Type 0
CommandRead line r = MatchOption r ((c : Command) → HasText c → line ≢ command_text c) (λ c. IsTextOf c line)

-- the letter's kind is on one label
abbrev pub IsOneLabelLetter : ℕ → Type 0
IsOneLabelLetter letter = (a : ℕ) → GateFits (action_of letter a 0) 0 × (gate_labels (action_of letter a 0) ≡ a ∷ [])

-- every command's line has at most 80 bytes
abbrev pub TextsFit : Type 0
TextsFit = (c : Command) → HasText c → length (command_text c) ≤ 80

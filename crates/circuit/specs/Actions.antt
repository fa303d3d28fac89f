-- Kinds, their letters and their order, and the wires of actions. Assumes nothing.
use Rattle.std.specs.Prelude.{ℕ, zero, suc, Bool, true, false, cond, ◌≢◌, List, [], ◌∷◌, Some, None, Option, ◌==◌, nat_eq}
use Rattle.orders.specs.Lists.{any}
use Rattle.std.specs.Option.{unwrap_or}
use Rattle.circuit.specs.declared.action.Plain.{Plain}
use Rattle.circuit.specs.declared.action.Single.{Single}
use Rattle.circuit.specs.declared.action.Action.{Action}

-- the wire, or the control
abbrev pub first_wire : Action → ℕ
first_wire (Action.One k a) = a
first_wire (Action.Cnot a b) = a

-- the target of a CNOT
abbrev pub second_wire : Action → Option ℕ
second_wire (Action.One k a) = None
second_wire (Action.Cnot a b) = Some b

-- the target of a CNOT, else 0
abbrev pub target_or_zero : Action → ℕ
target_or_zero x = unwrap_or (second_wire x) 0

-- the wires that an action names, the control before the target
abbrev pub wires : Action → List ℕ
wires (Action.One k a) = a ∷ []
wires (Action.Cnot a b) = a ∷ b ∷ []

-- the action names the wire
abbrev pub names : Action → ℕ → Bool
names x w = any (nat_eq w) (wires x)

-- the actions name a common wire
abbrev pub share : Action → Action → Bool
share x y = any (names y) (wires x)

-- the wire at a place of an action: 0 is its wire or the control, 1 the target
abbrev pub wire_at : ℕ → Action → Option ℕ
wire_at zero x = Some (first_wire x)
wire_at (suc zero) x = second_wire x
wire_at (suc (suc n)) x = None

-- the kind is H
abbrev pub single_is_h : Single → Bool
single_is_h Single.H = true
single_is_h (Single.Plain p) = false
single_is_h Single.Read = false

-- the kind is a read
abbrev pub single_is_read : Single → Bool
single_is_read Single.H = false
single_is_read (Single.Plain p) = false
single_is_read Single.Read = true

-- the action is an H
abbrev pub is_h : Action → Bool
is_h (Action.One k a) = single_is_h k
is_h (Action.Cnot a b) = false

-- the action is a read
abbrev pub is_read : Action → Bool
is_read (Action.One k a) = single_is_read k
is_read (Action.Cnot a b) = false

-- the wires of a CNOT differ
abbrev pub Distinct : Action → Type 0
Distinct (Action.One k a) = Unit {0}
Distinct (Action.Cnot a b) = a ≢ b

-- a CNOT names one wire twice
abbrev pub is_twice : Action → Bool
is_twice (Action.One k a) = false
is_twice (Action.Cnot a b) = a == b

-- the action on the wires that f gives for its own
abbrev pub carry : (ℕ → ℕ) → Action → Action
carry f (Action.One k a) = Action.One k (f a)
carry f (Action.Cnot a b) = Action.Cnot (f a) (f b)

-- c with a and b exchanged
abbrev pub exchanged : ℕ → ℕ → ℕ → ℕ
exchanged a b c = cond (c == a) b (cond (c == b) a c)

-- the letters, by their codes: X Y Z S T
abbrev pub plain_letter : Plain → ℕ
plain_letter Plain.X = 88
plain_letter Plain.Y = 89
plain_letter Plain.Z = 90
plain_letter Plain.S = 83
plain_letter Plain.T = 84

-- H, the plain gates', R
abbrev pub single_letter : Single → ℕ
single_letter Single.H = 72
single_letter (Single.Plain p) = plain_letter p
single_letter Single.Read = 82

-- the letter of an action's kind; C for a CNOT
abbrev pub letter_of : Action → ℕ
letter_of (Action.One k a) = single_letter k
letter_of (Action.Cnot a b) = 67

-- an action of each kind, in the order of the kinds
abbrev pub of_each_kind : ℕ → ℕ → List Action
of_each_kind a b =
    Action.One Single.H a ∷ Action.One (Single.Plain Plain.X) a ∷ Action.One (Single.Plain Plain.Y) a ∷ Action.One (Single.Plain Plain.Z) a
    ∷ Action.One (Single.Plain Plain.S) a ∷ Action.One (Single.Plain Plain.T) a ∷ Action.Cnot a b ∷ Action.One Single.Read a ∷ []

-- the first that has the letter
abbrev pub with_letter : ℕ → List Action → Option Action
with_letter letter [] = None
with_letter letter (x ∷ xs) = cond (letter == letter_of x) (Some x) (with_letter letter xs)

-- what a letter names on one wire or two
abbrev pub action_of : ℕ → ℕ → ℕ → Option Action
action_of letter a b = with_letter letter (of_each_kind a b)

-- the place of a kind among H, X, Y, Z, S, T, C, R
abbrev pub plain_place : Plain → ℕ
plain_place Plain.X = 1
plain_place Plain.Y = 2
plain_place Plain.Z = 3
plain_place Plain.S = 4
plain_place Plain.T = 5

abbrev pub single_place : Single → ℕ
single_place Single.H = 0
single_place (Single.Plain p) = plain_place p
single_place Single.Read = 7

abbrev pub kind_place : Action → ℕ
kind_place (Action.One k a) = single_place k
kind_place (Action.Cnot a b) = 6

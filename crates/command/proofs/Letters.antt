-- A command is known from its line. Assumes nothing.
use Rattle.std.proofs.Common.{◌↔◌, Ok, Result, ◌≡◌, ℕ, ◌*◌, ◌≤◌, cond, eqb, List, [], ◌∷◌, length, get_or, Option, Some, None, sym, refl, ap, ◌∙◌, subst, arith, length-append, rules}
use Rattle.std.specs.Option.{IfSome, ok_or}
use Rattle.refusal.specs.declared.Refusal.{Refusal}
use Rattle.refusal.specs.declared.Refusal.TheVariants.{MalformedLine}
use Rattle.std.proofs.lemmas.Fmt.{length-decimal-le}
use Rattle.std.specs.List.{AllByRecursion as All}
use Rattle.circuit.specs.declared.action.Action.{Action}
use Rattle.circuit.specs.declared.action.Single.{Single}
use Rattle.circuit.specs.declared.action.Plain.{Plain}
use Rattle.circuit.specs.Actions.{action_of, wires, first_wire, target_or_zero, letter_of}
use Rattle.numbers.specs.Numbers.{IsShort, NumbersRead, spaced, spaced_all}
use Rattle.numbers.proofs.Nums.{same_number}
use Rattle.numbers.proofs.Rows.{stops_all}
use Rattle.command.specs.declared.command.Command.{Command}
use Rattle.command.specs.Commands.{gate_labels, GateFits, command_letter, command_numbers, command_text, HasText, LetterFits, CommandRead, IsTextOf, IsOneLabelLetter}

-- rows of numbers are known from their text
same_rows : (xs ys : List ℕ) → All IsShort xs → All IsShort ys → spaced_all xs ≡ spaced_all ys → xs ≡ ys
same_rows [] [] p q e = refl
same_rows [] (y ∷ ys) p q e = absurd (omega (arith, ap length e))
same_rows (x ∷ xs) [] p q e = absurd (omega (arith, ap length e))
same_rows (x ∷ xs) (y ∷ ys) p q e =
    let i = same_number x y (spaced_all xs) (spaced_all ys) p.0 q.0 (stops_all xs) (stops_all ys) e in
    let h = i.0 in
    let t = same_rows xs ys p.1 q.1 i.1 in
    cc

-- what an action has that a letter names
pub record Named (l a b : ℕ) (x : Action) : Type 0 where
  pub letter : letter_of x ≡ l
  pub first : first_wire x ≡ a

named_if : (l a b : ℕ) → IfSome (action_of l a b) (Named l a b)
named_if l a b = search rules

gate_of : (l a b : ℕ) (o : Option Action) → o ≡ action_of l a b → GateFits o b → (x : Action) × (o ≡ Some x) × Named l a b x × (target_or_zero x ≡ b)
gate_of l a b None e f = absurd f
gate_of l a b (Some x) e f = (x, refl, subst (λ o. IfSome o (Named l a b)) (sym e) (named_if l a b), sym f)

-- how many numbers follow a letter
abbrev pub arity : ℕ → Option ℕ
arity l =
    cond (eqb l 111) (Some 3)
    (cond (eqb l 101) (Some 0)
    (cond (eqb l 110) (Some 0)
    (cond (eqb l 107) (Some 6)
    (cond (eqb l 112) (Some 2)
    (cond (eqb l 116) (Some 3)
    (cond (eqb l 121) (Some 3)
    (cond (eqb l 106) (Some 0)
    (cond (eqb l 97) (Some 0)
    (cond (eqb l 108) (Some 0)
    (cond (eqb l 67) (Some 2)
    (cond (eqb l 72) (Some 1)
    (cond (eqb l 88) (Some 1)
    (cond (eqb l 89) (Some 1)
    (cond (eqb l 90) (Some 1)
    (cond (eqb l 83) (Some 1)
    (cond (eqb l 84) (Some 1)
    (cond (eqb l 82) (Some 1) None)))))))))))))))))

-- the command of a letter and its numbers
abbrev pub made_of : ℕ → List ℕ → Command
made_of l ns =
    cond (eqb l 111) (Command.Open (get_or ns 0 0) (get_or ns 1 0) (get_or ns 2 0))
    (cond (eqb l 101) Command.Close
    (cond (eqb l 110) Command.Reopen
    (cond (eqb l 107) (Command.Calibrate (get_or ns 0 0) (record { single = get_or ns 1 0; read = get_or ns 2 0; window = get_or ns 3 0; east = get_or ns 4 0; south = get_or ns 5 0 }))
    (cond (eqb l 112) (Command.Place (get_or ns 0 0) (get_or ns 1 0))
    (cond (eqb l 116) (Command.Time (get_or ns 0 0) (get_or ns 1 0) (get_or ns 2 0))
    (cond (eqb l 121) (Command.Try (get_or ns 0 0) (get_or ns 1 0) (get_or ns 2 0))
    (cond (eqb l 106) Command.Judge
    (cond (eqb l 97) Command.Agenda
    (cond (eqb l 108) Command.List
    (Command.Add l (get_or ns 0 0) (get_or ns 1 0)))))))))))

action_back : (x : Action) → made_of (letter_of x) (wires x) ≡ Command.Add (letter_of x) (first_wire x) (target_or_zero x)
action_back (Action.One Single.H a) = refl
action_back (Action.One (Single.Plain Plain.X) a) = refl
action_back (Action.One (Single.Plain Plain.Y) a) = refl
action_back (Action.One (Single.Plain Plain.Z) a) = refl
action_back (Action.One (Single.Plain Plain.S) a) = refl
action_back (Action.One (Single.Plain Plain.T) a) = refl
action_back (Action.One Single.Read a) = refl
action_back (Action.Cnot a b) = refl

action_arity : (x : Action) → arity (letter_of x) ≡ Some (length (wires x))
action_arity (Action.One Single.H a) = refl
action_arity (Action.One (Single.Plain Plain.X) a) = refl
action_arity (Action.One (Single.Plain Plain.Y) a) = refl
action_arity (Action.One (Single.Plain Plain.Z) a) = refl
action_arity (Action.One (Single.Plain Plain.S) a) = refl
action_arity (Action.One (Single.Plain Plain.T) a) = refl
action_arity (Action.One Single.Read a) = refl
action_arity (Action.Cnot a b) = refl

made_back : (c : Command) → LetterFits c → made_of (command_letter c) (command_numbers c) ≡ c
made_back (Command.Open w h p) f = refl
made_back (Command.Add l a b) f =
    let g = gate_of l a b (action_of l a b) refl f in
    let x = g.0 in
    ap (λ o. made_of l (gate_labels o)) g.1
    ∙ ap (λ m. made_of m (wires x)) (sym g.2.letter)
    ∙ action_back x
    ∙ (λ i. Command.Add (g.2.letter i) (g.2.first i) (g.3 i))
made_back Command.Close f = refl
made_back Command.Reopen f = refl
made_back (Command.Calibrate c v) f = refl
made_back (Command.Place l c) f = refl
made_back (Command.Time g s c) f = refl
made_back (Command.Try g s c) f = refl
made_back Command.Judge f = refl
made_back Command.Agenda f = refl
made_back Command.List f = refl

pub same_command : (c d : Command) → HasText c → HasText d → command_text c ≡ command_text d → c ≡ d
same_command c d v w e =
    let h : command_letter c ≡ command_letter d = cc in
    let t : spaced_all (command_numbers c) ≡ spaced_all (command_numbers d) = cc in
    let n = same_rows (command_numbers c) (command_numbers d) v.1 w.1 t in
    sym (made_back c v.0) ∙ (λ i. made_of (h i) (n i)) ∙ made_back d w.0

-- a command's letter says how many numbers follow
counted : (c : Command) → LetterFits c → arity (command_letter c) ≡ Some (length (command_numbers c))
counted (Command.Open w h p) f = refl
counted (Command.Add l a b) f =
    let g = gate_of l a b (action_of l a b) refl f in
    ap arity (sym g.2.letter) ∙ action_arity g.0 ∙ ap (λ o. Some (length (gate_labels o))) (sym g.1)
counted Command.Close f = refl
counted Command.Reopen f = refl
counted (Command.Calibrate c v) f = refl
counted (Command.Place l c) f = refl
counted (Command.Time g s c) f = refl
counted (Command.Try g s c) f = refl
counted Command.Judge f = refl
counted Command.Agenda f = refl
counted Command.List f = refl

-- a letter that so many numbers do not follow here says no command
pub no_command : (l k : ℕ) (rest : List ℕ) → arity l ≡ Some k → NumbersRead k rest None → CommandRead (l ∷ rest) None
no_command l k rest s none c h e =
    let letters : l ≡ command_letter c = cc in
    let texts : rest ≡ spaced_all (command_numbers c) = cc in
    let a = counted c h.0 in
    let count : length (command_numbers c) ≡ k = cc in
    none (command_numbers c) count h.1 texts

-- a letter of no command
pub no_letter : (l : ℕ) (rest : List ℕ) → arity l ≡ None → CommandRead (l ∷ rest) None
no_letter l rest s c h e =
    let letters : l ≡ command_letter c = cc in
    let a = counted c h.0 in
    cc

row_length : (ns : List ℕ) → All IsShort ns → length (spaced_all ns) ≤ 8 * length ns
row_length [] a = omega arith
row_length (n ∷ ns) a =
    let d = length-decimal-le 7 n (omega arith) a.0 (omega (arith, a.0)) in
    let r = row_length ns a.1 in
    omega (arith, length-append (spaced n) (spaced_all ns))

few_labels : (o : Option Action) → length (gate_labels o) ≤ 6
few_labels None = omega arith
few_labels (Some (Action.One k a)) = omega arith
few_labels (Some (Action.Cnot a b)) = omega arith

few : (c : Command) → length (command_numbers c) ≤ 6
few (Command.Open w h p) = omega arith
few (Command.Add l a b) = few_labels (action_of l a b)
few Command.Close = omega arith
few Command.Reopen = omega arith
few (Command.Calibrate c v) = omega arith
few (Command.Place l c) = omega arith
few (Command.Time g s c) = omega arith
few (Command.Try g s c) = omega arith
few Command.Judge = omega arith
few Command.Agenda = omega arith
few Command.List = omega arith

pub texts_fit : (c : Command) → HasText c → length (command_text c) ≤ 80
texts_fit c h = omega (arith, row_length (command_numbers c) h.1, few c)

-- a letter of a kind on one label, without one number after it
pub no_single : (l : ℕ) (rest : List ℕ) → IsOneLabelLetter l → NumbersRead 1 rest None → CommandRead (l ∷ rest) None
no_single l rest one none = no_command l 1 rest (counted (Command.Add l 0 0) (one 0).0 ∙ ap (λ ls. Some (length ls)) (one 0).1) none

-- what is answered is the one command that the line says
pub read_answers : (line : List ℕ) (o : Option Command) (r : Result Command Refusal) → CommandRead line o → r ≡ ok_or o MalformedLine → (c : Command) → (r ≡ Ok c) ↔ IsTextOf c line
read_answers line None r h e c = ((λ q. absurd (cc)), (λ t. absurd (h c t.0 t.1)))
read_answers line (Some d) r h e c = (
  (λ q. let same : d ≡ c = cc in subst (λ x. IsTextOf x line) same h),
  (λ t. e ∙ ap Ok (same_command d c h.0 t.0 (sym h.1 ∙ t.1))),
)

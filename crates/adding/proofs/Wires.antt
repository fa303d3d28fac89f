-- A letter names a kind, whatever the wires. Assumes nothing.
use Rattle.std.proofs.Common.{◌≡◌, ℕ, Bool, true, false, cond, List, [], ◌∷◌, map, Some, Option, refl, ap, ◌∙◌, ◌==◌}
use Rattle.std.specs.Option.{option_map}
use Rattle.circuit.specs.declared.action.Action.{Action}
use Rattle.circuit.specs.Actions.{letter_of, of_each_kind, with_letter, action_of}
use Rattle.adding.specs.Additions.{with_wires}

map_cond : (f : Action → Action) (t : Bool) (x : Action) (o : Option Action) → cond t (Some (f x)) (option_map f o) ≡ option_map f (cond t (Some x) o)
map_cond f true x o = refl
map_cond f false x o = refl

letter_kept : (a b : ℕ) (x : Action) → letter_of (with_wires a b x) ≡ letter_of x
letter_kept a b (Action.One k l) = refl
letter_kept a b (Action.Cnot l m) = refl

with_letter_map : (letter a b : ℕ) (xs : List Action) → with_letter letter (map (with_wires a b) xs) ≡ option_map (with_wires a b) (with_letter letter xs)
with_letter_map letter a b [] = refl
with_letter_map letter a b (x ∷ xs) =
    ap (λ n. cond (letter == n) (Some (with_wires a b x)) (with_letter letter (map (with_wires a b) xs))) (letter_kept a b x)
    ∙ ap (cond (letter == letter_of x) (Some (with_wires a b x))) (with_letter_map letter a b xs)
    ∙ map_cond (with_wires a b) (letter == letter_of x) x (with_letter letter xs)

-- the action on wires is that of the letter's kind
pub kind_then_wires : (letter a b : ℕ) → action_of letter a b ≡ option_map (with_wires a b) (action_of letter 0 0)
kind_then_wires letter a b = with_letter_map letter a b (of_each_kind 0 0)

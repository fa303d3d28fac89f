-- One operation more of a list. Assumes nothing.
use Rattle.std.proofs.Common.{◌≡◌, ℕ, ◌+◌, ◌<◌, ◌≤◌, Bool, cond, List, [], ◌∷◌, ◌++◌, length, get_or, take, drop, Some, None, sym, ap, ◌∙◌, add-one, arith, take-append-drop, drop-cons, rules}
use Rattle.std.proofs.lemmas.List.{take_more, at_drop_all}
use Rattle.circuit.specs.declared.operation.Operation.{Operation}
use Rattle.refusal.specs.declared.Refusal.{Refusal}
use Rattle.circuit.specs.Actions.{is_h, is_read}
use Rattle.circuit.specs.Operations.{one_if, h_count, read_count}
use Rattle.register.specs.Runs.{at_first}

-- the search from position i on
pub at_first-next : {X : Type 0} (names : ℕ → Refusal) (test : X → Bool) (xs : List X) (i : ℕ) (d : X) → i < length xs
    → at_first names test i (drop i xs) ≡ cond (test (get_or xs i d)) (Some (names i)) (at_first names test (i + 1) (drop (i + 1) xs))
at_first-next names test xs i d h = ap (at_first names test i) (drop-cons xs i d h) ∙ ap (λ n. cond (test (get_or xs i d)) (Some (names i)) (at_first names test (i + 1) (drop n xs))) (sym (add-one i))

pub at_first-end : {X : Type 0} (names : ℕ → Refusal) (test : X → Bool) (xs : List X) (i : ℕ) → length xs ≤ i → at_first names test i (drop i xs) ≡ None
at_first-end names test xs i h = at_drop_all (at_first names test i) xs i h

h_append : (xs ys : List Operation) → h_count (xs ++ ys) ≡ h_count xs + h_count ys
h_append [] ys = omega arith
h_append (x ∷ xs) ys = let h = h_append xs ys in omega arith

reads_append : (xs ys : List Operation) → read_count (xs ++ ys) ≡ read_count xs + read_count ys
reads_append [] ys = omega arith
reads_append (x ∷ xs) ys = let h = reads_append xs ys in omega arith

pub h_more : (xs : List Operation) (i : ℕ) (d : Operation) → i < length xs → h_count (take (i + 1) xs) ≡ h_count (take i xs) + one_if (is_h (get_or xs i d).action)
h_more xs i d h = let e = ap h_count (take_more xs i d h) in let k = h_append (take i xs) (get_or xs i d ∷ []) in omega arith

pub reads_more : (xs : List Operation) (i : ℕ) (d : Operation) → i < length xs → read_count (take (i + 1) xs) ≡ read_count (take i xs) + one_if (is_read (get_or xs i d).action)
reads_more xs i d h = let e = ap read_count (take_more xs i d h) in let k = reads_append (take i xs) (get_or xs i d ∷ []) in omega arith

pub h_front : (xs : List Operation) (i : ℕ) → h_count (take i xs) ≤ h_count xs
h_front xs i = let e = ap h_count (take-append-drop i xs) in let k = h_append (take i xs) (drop i xs) in omega arith

pub reads_front : (xs : List Operation) (i : ℕ) → read_count (take i xs) ≤ read_count xs
reads_front xs i = let e = ap read_count (take-append-drop i xs) in let k = reads_append (take i xs) (drop i xs) in omega arith

pub one_at_most : (b : Bool) → one_if b ≤ 1
one_at_most b = search rules

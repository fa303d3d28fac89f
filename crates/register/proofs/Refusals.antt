-- A register refuses a list of operations exactly when it does not take it, for the first test that fails. Assumes nothing.
use Rattle.std.proofs.Common.{◌≡◌, ℕ, suc, ◌+◌, ◌<◌, Bool, true, false, cond, not, ltb, List, [], ◌∷◌, length, get_or, Some, None, Option, refl, ap, ◌∙◌, inl, inr, arith, rules}
use Rattle.std.proofs.ByRecursion.{All-get_or, All-from_get_or}
use Rattle.std.proofs.lemmas.Bool.{both_ways, cases_Bool, cases_lt, cond_both}
use Rattle.circuit.specs.declared.action.Action.{Action}
use Rattle.circuit.specs.declared.operation.Operation.{Operation}
use Rattle.refusal.specs.declared.Refusal.{Refusal}
use Rattle.circuit.specs.Operations.{h_count, read_count}
use Rattle.refusal.specs.Refusals.{or_else}
use Rattle.register.specs.Models.{is_taken, OnWires, Fit}
use Rattle.register.specs.Runs.{Capacity, is_off_wires, at_first, too_few, running_refusal, Taken, no_operation, operation_at, Failed, test_order, Sooner, FirstFailed, RunningFair}

on_wires-from : (n : ℕ) (x : Action) → is_off_wires n x ≡ false → OnWires n x
on_wires-from n x e = search rules

from-on_wires : (n : ℕ) (x : Action) → OnWires n x → is_off_wires n x ≡ false
from-on_wires n x w = search rules

-- what the first position at which a test holds, or its want, says
abbrev FirstAt : {X : Type 0} → (ℕ → Refusal) → (X → Bool) → ℕ → X → List X → Option Refusal → Type 0
FirstAt names test i d xs None = (k : ℕ) → k < length xs → test (get_or xs k d) ≡ false
FirstAt names test i d xs (Some r) = (k : ℕ) × (r ≡ names (i + k)) × (k < length xs) × (test (get_or xs k d) ≡ true) × ((j : ℕ) → j < k → test (get_or xs j d) ≡ false)

past : {X : Type 0} (test : X → Bool) (d x : X) (xs : List X) (n : ℕ) → test x ≡ false → ((j : ℕ) → j < n → test (get_or xs j d) ≡ false) → (j : ℕ) → j < suc n → test (get_or (x ∷ xs) j d) ≡ false
past test d x xs n e f j h = search rules

first-at_skip : {X : Type 0} (names : ℕ → Refusal) (test : X → Bool) (i : ℕ) (d x : X) (xs : List X) (o : Option Refusal) → test x ≡ false → FirstAt names test (i + 1) d xs o → FirstAt names test i d (x ∷ xs) o
first-at_skip names test i d x xs None e f = λ k h. past test d x xs (length xs) e (λ j l. f j l) k h
first-at_skip names test i d x xs (Some r) e (k, s, l, t, b) = let m : i + 1 + k ≡ i + suc k = omega arith in (suc k, s ∙ ap names m, omega arith, t, λ j h. past test d x xs k e b j h)

first-at-tells : {X : Type 0} (names : ℕ → Refusal) (test : X → Bool) (i : ℕ) (d : X) (xs : List X) → FirstAt names test i d xs (at_first names test i xs)
first-at-tells names test i d [] = λ k h. absurd (omega arith)
first-at-tells names test i d (x ∷ xs) =
    cond_both (test x) (Some (names i)) (at_first names test (i + 1) xs) (FirstAt names test i d (x ∷ xs))
    (λ e. let m : i ≡ i + 0 = omega arith in (0, ap names m, omega arith, e, λ j h. absurd (omega arith)))
    (λ e. first-at_skip names test i d x xs (at_first names test (i + 1) xs) e (first-at-tells names test (i + 1) d xs))

module _ (r : Capacity) (os : List Operation) where
  abbrev off : Operation → Bool
  off o = is_off_wires r.wires o.action

  abbrev not_taken : Operation → Bool
  not_taken o = not (is_taken r.takes o.action)

  -- the four tests, by what they find
  abbrev FirstTells : (ℕ → Refusal) → Option Refusal → Type 0
  FirstTells named None = (i : ℕ) → Failed r os (named i) → ⊥
  FirstTells named (Some f) = (k : ℕ) × (f ≡ named k) × Failed r os (named k) × ((i : ℕ) → i < k → Failed r os (named i) → ⊥)

  abbrev OneTells : Refusal → Option Refusal → Type 0
  OneTells g None = Failed r os g → ⊥
  OneTells g (Some f) = (f ≡ g) × Failed r os g

  wires-from : (o : Option Refusal) → FirstAt Refusal.NotOnWires off 0 no_operation os o → FirstTells Refusal.NotOnWires o
  wires-from o f = search rules

  kinds_from : (o : Option Refusal) → FirstAt Refusal.KindNotTaken not_taken 0 no_operation os o → FirstTells Refusal.KindNotTaken o
  kinds_from o f = search rules

  h_tells : (t : Bool) → ltb r.most (r.done + h_count os) ≡ t → OneTells Refusal.TooManyH (cond t (Some Refusal.TooManyH) None)
  h_tells t e = search rules

  few_tell : (o : Option ℕ) → r.places ≡ o → OneTells Refusal.TooFewPlaces (too_few (read_count os) o)
  few_tell o e = search rules

  -- a failed test is one of the four
  by_test : (Q : Refusal → Type 0) → ((i : ℕ) → Failed r os (Refusal.NotOnWires i) → Q (Refusal.NotOnWires i)) → ((i : ℕ) → Failed r os (Refusal.KindNotTaken i) → Q (Refusal.KindNotTaken i))
      → (Failed r os Refusal.TooManyH → Q Refusal.TooManyH) → (Failed r os Refusal.TooFewPlaces → Q Refusal.TooFewPlaces) → (q : Refusal) → Failed r os q → Q q
  by_test Q w k h p (Refusal.NotOnWires i) f = w i f
  by_test Q w k h p (Refusal.KindNotTaken i) f = k i f
  by_test Q w k h p Refusal.TooManyH f = h f
  by_test Q w k h p Refusal.TooFewPlaces f = p f
  by_test Q w k h p Refusal.MachineSize f = absurd f
  by_test Q w k h p Refusal.LabelCount f = absurd f
  by_test Q w k h p Refusal.UnknownKind f = absurd f
  by_test Q w k h p (Refusal.NoSuchLabel l) f = absurd f
  by_test Q w k h p Refusal.SameLabel f = absurd f
  by_test Q w k h p (Refusal.AlreadyRead l) f = absurd f
  by_test Q w k h p Refusal.ProgramFull f = absurd f
  by_test Q w k h p (Refusal.NoSuchCell c) f = absurd f
  by_test Q w k h p (Refusal.ValueOutOfRange c) f = absurd f
  by_test Q w k h p (Refusal.NoSuchGate g) f = absurd f
  by_test Q w k h p (Refusal.StartTooLarge g) f = absurd f
  by_test Q w k h p (Refusal.ChoiceTooLarge g) f = absurd f
  by_test Q w k h p (Refusal.NoHome l) f = absurd f
  by_test Q w k h p (Refusal.SharedHome l m) f = absurd f
  by_test Q w k h p (Refusal.NoTiming g) f = absurd f
  by_test Q w k h p (Refusal.ChoiceNotOffered g) f = absurd f
  by_test Q w k h p (Refusal.TooEarly i j) f = absurd f
  by_test Q w k h p (Refusal.Overlap i j) f = absurd f
  by_test Q w k h p (Refusal.PastWindow g c) f = absurd f
  by_test Q w k h p Refusal.MalformedLine f = absurd f
  by_test Q w k h p Refusal.WrongState f = absurd f
  by_test Q w k h p Refusal.NoMemory f = absurd f

  abbrev NoneSooner : Refusal → Refusal → Type 0
  NoneSooner f q = Sooner q f → ⊥

  later : (f q : Refusal) → test_order f < test_order q → NoneSooner f q
  later f q l s = search rules

  itself : (f : Refusal) → NoneSooner f f
  itself f s = search rules

  first : (f g : Refusal) → f ≡ g → Failed r os g → ((q : Refusal) → Failed r os q → NoneSooner g q) → FirstFailed r os f
  first f g e h n = search rules

  names : (a b c d : Option Refusal) → FirstTells Refusal.NotOnWires a → FirstTells Refusal.KindNotTaken b → OneTells Refusal.TooManyH c → OneTells Refusal.TooFewPlaces d → (f : Refusal) → or_else a (or_else b (or_else c d)) ≡ Some f → FirstFailed r os f
  names (Some x) b c d (k, e, h, n) t u v f z =
      let s : f ≡ x = cc in
      first f (Refusal.NotOnWires k) (s ∙ e) h (by_test (NoneSooner (Refusal.NotOnWires k))
      (λ i g m. elim m [ inl l ↦ omega arith | inr l ↦ n i l.1 g ]) (λ i g. later (Refusal.NotOnWires k) (Refusal.KindNotTaken i) (omega arith)) (λ g. later (Refusal.NotOnWires k) Refusal.TooManyH (omega arith)) (λ g. later (Refusal.NotOnWires k) Refusal.TooFewPlaces (omega arith)))
  names None (Some x) c d w (k, e, h, n) u v f z =
      let s : f ≡ x = cc in
      first f (Refusal.KindNotTaken k) (s ∙ e) h (by_test (NoneSooner (Refusal.KindNotTaken k))
      (λ i g. absurd (w i g)) (λ i g m. elim m [ inl l ↦ omega arith | inr l ↦ n i l.1 g ]) (λ g. later (Refusal.KindNotTaken k) Refusal.TooManyH (omega arith)) (λ g. later (Refusal.KindNotTaken k) Refusal.TooFewPlaces (omega arith)))
  names None None (Some x) d w t (e, h) v f z =
      let s : f ≡ x = cc in
      first f Refusal.TooManyH (s ∙ e) h (by_test (NoneSooner Refusal.TooManyH) (λ i g. absurd (w i g)) (λ i g. absurd (t i g)) (λ g. itself Refusal.TooManyH) (λ g. later Refusal.TooManyH Refusal.TooFewPlaces (omega arith)))
  names None None None (Some x) w t u (e, h) f z =
      let s : f ≡ x = cc in
      first f Refusal.TooFewPlaces (s ∙ e) h (by_test (NoneSooner Refusal.TooFewPlaces) (λ i g. absurd (w i g)) (λ i g. absurd (t i g)) (λ g. absurd (u g)) (λ g. itself Refusal.TooFewPlaces))
  names None None None None w t u v f z = cc

  none-failed : (a b c d : Option Refusal) → FirstTells Refusal.NotOnWires a → FirstTells Refusal.KindNotTaken b → OneTells Refusal.TooManyH c → OneTells Refusal.TooFewPlaces d → or_else a (or_else b (or_else c d)) ≡ None → (q : Refusal) → Failed r os q → ⊥
  none-failed a b c d w t u v z = search rules

  all_failed : (a b c d : Option Refusal) → FirstTells Refusal.NotOnWires a → FirstTells Refusal.KindNotTaken b → OneTells Refusal.TooManyH c → OneTells Refusal.TooFewPlaces d → ((q : Refusal) → Failed r os q → ⊥) → or_else a (or_else b (or_else c d)) ≡ None
  all_failed (Some x) b c d (k, e, h, n) t u v z = absurd (z (Refusal.NotOnWires k) h)
  all_failed None (Some x) c d w (k, e, h, n) u v z = absurd (z (Refusal.KindNotTaken k) h)
  all_failed None None (Some x) d w t (e, h) v z = absurd (z Refusal.TooManyH h)
  all_failed None None None (Some x) w t u (e, h) z = absurd (z Refusal.TooFewPlaces h)
  all_failed None None None None w t u v z = refl

  -- what the first two tests find
  wt : FirstTells Refusal.NotOnWires (at_first Refusal.NotOnWires off 0 os)
  wt = wires-from _ (first-at-tells Refusal.NotOnWires off 0 no_operation os)

  kt : FirstTells Refusal.KindNotTaken (at_first Refusal.KindNotTaken not_taken 0 os)
  kt = kinds_from _ (first-at-tells Refusal.KindNotTaken not_taken 0 no_operation os)

  pub names_first : (f : Refusal) → running_refusal r os ≡ Some f → FirstFailed r os f
  names_first = names _ _ _ _ wt kt (h_tells _ refl) (few_tell r.places refl)

  nothing_failed : running_refusal r os ≡ None → (q : Refusal) → Failed r os q → ⊥
  nothing_failed = none-failed _ _ _ _ wt kt (h_tells _ refl) (few_tell r.places refl)

  fit_at : ((q : Refusal) → Failed r os q → ⊥) → (i : ℕ) → i < length os → Fit r.wires r.takes (operation_at os i).action
  fit_at n i l = record {
    taken = elim (cases_Bool (is_taken r.takes (operation_at os i).action)) [ inl t ↦ t | inr f ↦ absurd (n (Refusal.KindNotTaken i) (l, f)) ];
    on_wires = elim (cases_Bool (is_off_wires r.wires (operation_at os i).action)) [
      | inl t ↦ absurd (n (Refusal.NotOnWires i) (l, λ w. both_ways _ (from-on_wires r.wires (operation_at os i).action w) t))
      | inr f ↦ on_wires-from r.wires (operation_at os i).action f
    ];
  }

  pub accepted : running_refusal r os ≡ None → Taken r os
  accepted e = let n = nothing_failed e in record {
    fits = All-from_get_or (λ o. Fit r.wires r.takes o.action) os no_operation (fit_at n);
    few = elim (cases_lt r.most (r.done + h_count os)) [ inl l ↦ absurd (n Refusal.TooManyH l) | inr l ↦ l ];
    room = λ m s. elim (cases_lt m (read_count os)) [ inl l ↦ absurd (n Refusal.TooFewPlaces (m, s, l)) | inr l ↦ l ];
  }

  pub not_refused : Taken r os → running_refusal r os ≡ None
  not_refused t =
      all_failed _ _ _ _ wt kt (h_tells _ refl) (few_tell r.places refl)
      (by_test (λ q. ⊥)
      (λ i f. f.1 (All-get_or (λ o. Fit r.wires r.takes o.action) os i no_operation f.0 t.fits).on_wires)
      (λ i f. both_ways _ f.1 (All-get_or (λ o. Fit r.wires r.takes o.action) os i no_operation f.0 t.fits).taken)
      (λ f. let l = t.few in omega arith)
      (λ f. let l = t.room f.0 f.1 in let m = f.2 in omega arith))

pub running_fair : RunningFair
running_fair = record { accepted = accepted; not_refused = not_refused; names_first = names_first }

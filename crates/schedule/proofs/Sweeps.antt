-- A pass that finds nothing means that the search finds nothing. Assumes nothing.
use Rattle.std.proofs.Common.{◌≡◌, ℕ, zero, suc, ◌+◌, ◌-◌, ◌<◌, ◌≤◌, Bool, true, false, ◌&&◌, ◌||◌, List, [], ◌∷◌, length, get_or, drop, eqb, ltb, None, sym, refl, ap, ◌∙◌, subst, inl, inr, arith}
use Rattle.std.specs.Option.{option_map}
use Rattle.std.specs.List.Sorted.{IsPermutation}
use Rattle.std.proofs.ByRecursion.{All-get_or}
use Rattle.std.proofs.lemmas.Bool.{and_parts, and_from, or_cases, or_left, or_right, cases_lt, lt-ltb, le-ltb, ltb-true, eq-eqb, false≢true}
use Rattle.std.proofs.lemmas.List.{get_or-drop, length-drop}
use Rattle.orders.specs.Lists.{Pairs}
use Rattle.orders.proofs.Lists.{pairs_from-get_or}
use Rattle.orders.proofs.Pairs.{pairs_perm}
use Rattle.orders.proofs.Perms.{perm_from_shuffled, perm_sym}
use Rattle.search.proofs.Searches.{scan_is, some_below-has, some_below-from}
use Rattle.circuit.specs.declared.action.Action.{Action}
use Rattle.circuit.specs.Actions.{names, share}
use Rattle.grid.specs.declared.cell_set.CellSet.{CellSet}
use Rattle.grid.specs.Members.{has}
use Rattle.spans.specs.declared.span.Span.{Span}
use Rattle.schedule.specs.Schedules.{no_span, span_at, early_at, early, meeting, overlaps, overlap_at, overlapping}
use Rattle.schedule.specs.Sweeps.{free_from, Taken, InTurn}

-- a test that is never true is false
never : (t : Bool) → (t ≡ true → ⊥) → t ≡ false
never true h = absurd (h refl)
never false h = refl

itself : (a : ℕ) (t : Bool) → (eqb a a || t) ≡ true
itself a t = or_left (eqb a a) t (eq-eqb a a refl)

-- a label that both name
shared : (x y : Action) → share x y ≡ true → (l : ℕ) × (names x l ≡ true) × (names y l ≡ true)
shared (Action.One k a) y e = elim (or_cases (names y a) false e) [ inl h ↦ (a, itself a false, h) | inr h ↦ absurd (false≢true h) ]
shared (Action.Cnot a b) y e =
    elim (or_cases (names y a) (names y b || false) e) [
      | inl h ↦ (a, itself a (eqb a b || false), h)
      | inr f ↦ elim (or_cases (names y b) false f) [ inl h ↦ (b, or_right (eqb b a) (eqb b b || false) (itself b false), h) | inr h ↦ absurd (false≢true h) ]
    ]

-- before the first gate
pub turn_none : (ss : List Span) (free : List ℕ) → InTurn ss free 0
turn_none ss free = record { clear = λ i j h l. absurd (omega arith); ended = λ i l h. absurd (omega arith) }

-- one gate more
module _ (ss : List Span) (was now : List ℕ) (n : ℕ) (t : InTurn ss was n) (s : Taken (span_at ss n) was now true) where
  in_turn : (i : ℕ) → i < n → early_at ss i n ≡ false
  in_turn i h =
      never (early_at ss i n)
      (λ e.
      let p = and_parts (ltb (span_at ss n).start (span_at ss i).end) (share (span_at ss i).action (span_at ss n).action) e in
      let c = shared (span_at ss i).action (span_at ss n).action p.1 in
      let a = t.ended i c.0 h c.1 in
      let b = s.waited refl c.0 c.2 in
      let d = ltb-true (span_at ss n).start (span_at ss i).end p.0 in
      omega arith)

  still_ended : (i l : ℕ) → i < n → names (span_at ss i).action l ≡ true → (span_at ss i).end ≤ free_from now l
  still_ended i l h e = let a = t.ended i l h e in let b = s.later l in omega arith

  pub turn_more : InTurn ss now (n + 1)
  turn_more = record {
    clear = λ i j h l. elim (cases_lt j n) [
      | inl k ↦ t.clear i j h k
      | inr k ↦ let q : j ≡ n = omega arith in ap (early_at ss i) q ∙ in_turn i (omega arith)
    ];
    ended = λ i l h e. elim (cases_lt i n) [
      | inl k ↦ still_ended i l k e
      | inr k ↦ let q : n ≡ i = omega arith in subst (λ m. names (span_at ss m).action l ≡ true → (span_at ss m).end ≤ free_from now l) q (s.ended l) e
    ];
  }

-- two places at which a test never holds
both_orders : (test : ℕ → ℕ → Bool) (n : ℕ) → ((i j : ℕ) → i < j → j < n → test i j ≡ false) → (i j : ℕ) → j < n → (ltb i j && test i j) ≡ false
both_orders test n f i j h = elim (cases_lt i j) [
  | inl l ↦ ap (λ z. z && test i j) (lt-ltb i j l) ∙ f i j l h
  | inr l ↦ ap (λ z. z && test i j) (le-ltb i j l)
]

-- after the last gate
pub turn_all : (ss : List Span) (free : List ℕ) (n : ℕ) → length ss ≤ n → InTurn ss free n → early ss ≡ None
turn_all ss free n h t =
    ap (option_map _) (sym (scan_is (λ i j. ltb i j && early_at ss i j) (length ss) (length ss) None
    (λ a b l k. both_orders (early_at ss) (length ss) (λ i j u v. t.clear i j u (omega arith)) a b k)))

-- the second starts when the first has ended
pub clear_late : (s t : Span) → s.end ≤ t.start → overlaps s t ≡ false
clear_late s t h =
    never (overlaps s t)
    (λ e.
    let p = and_parts (ltb s.start t.end) (ltb t.start s.end && meeting s.cells t.cells) e in
    let q = and_parts (ltb t.start s.end) (meeting s.cells t.cells) p.1 in
    let d = ltb-true t.start s.end q.0 in
    omega arith)

-- they have no common cell
pub clear_apart : (s t : Span) → meeting s.cells t.cells ≡ false → overlaps s t ≡ false
clear_apart s t h =
    never (overlaps s t)
    (λ e.
    let p = and_parts (ltb s.start t.end) (ltb t.start s.end && meeting s.cells t.cells) e in
    let q = and_parts (ltb t.start s.end) (meeting s.cells t.cells) p.1 in
    false≢true (sym h ∙ q.1))

-- a gate that overlaps none behind it
pub clear_row : (ss : List Span) (i : ℕ) (ts : List Span) → ts ≡ drop (i + 1) ss → ((k : ℕ) → k < length ts → overlaps (span_at ss i) (span_at ts k) ≡ false)
    → (j : ℕ) → i < j → j < length ss → overlaps (span_at ss i) (span_at ss j) ≡ false
clear_row ss i ts e f j h l =
    let k = j - (i + 1) in
    let q : j ≡ i + 1 + k = omega arith in
    let n : length ts ≡ length (drop (i + 1) ss) = ap length e in
    ap (overlaps (span_at ss i)) (ap (span_at ss) q ∙ sym (get_or-drop (i + 1) ss k no_span) ∙ sym (ap (λ xs. span_at xs k) e)) ∙ f k (omega (arith, n, length-drop (i + 1) ss))

meeting_turned : (s t : CellSet) → meeting s t ≡ true → meeting t s ≡ true
meeting_turned s t e =
    let c = some_below-has (λ c. has s c && has t c) 64 e in
    let p = and_parts (has s c.0) (has t c.0) c.2 in
    some_below-from (λ c. has t c && has s c) 64 c.0 c.1 (and_from (has t c.0) (has s c.0) p.1 p.0)

clear_turned : (s t : Span) → overlaps s t ≡ false → overlaps t s ≡ false
clear_turned s t h =
    never (overlaps t s)
    (λ e.
    let p = and_parts (ltb t.start s.end) (ltb s.start t.end && meeting t.cells s.cells) e in
    let q = and_parts (ltb s.start t.end) (meeting t.cells s.cells) p.1 in
    false≢true (sym h ∙ and_from (ltb s.start t.end) (ltb t.start s.end && meeting s.cells t.cells) q.0 (and_from (ltb t.start s.end) (meeting s.cells t.cells) p.0 (meeting_turned t.cells s.cells q.1))))

pairs_at : {X : Type 0} (R : X → X → Type 0) (xs : List X) (d : X) → Pairs R xs → (i j : ℕ) → i < j → j < length xs → R (get_or xs i d) (get_or xs j d)
pairs_at R [] d p i j h l = absurd (omega arith)
pairs_at R (x ∷ xs) d p zero zero h l = absurd (omega arith)
pairs_at R (x ∷ xs) d p zero (suc j) h l = All-get_or (R x) xs j d (omega arith) p.0
pairs_at R (x ∷ xs) d p (suc i) zero h l = absurd (omega arith)
pairs_at R (x ∷ xs) d p (suc i) (suc j) h l = pairs_at R xs d p.1 i j (omega arith) (omega arith)

-- no two of the same spans in another order overlap
pub nothing_overlaps : (ss ts : List Span) → IsPermutation ss ts → ((i j : ℕ) → i < j → j < length ts → overlaps (span_at ts i) (span_at ts j) ≡ false) → overlapping ss ≡ None
nothing_overlaps ss ts p f =
    let R = λ (s t : Span). overlaps s t ≡ false in
    let pairs : Pairs R ss = pairs_perm R clear_turned (perm_sym (perm_from_shuffled ss ts p)) (pairs_from-get_or R ts no_span f) in
    ap (option_map _) (sym (scan_is (λ i j. ltb i j && overlap_at ss i j) (length ss) (length ss) None
    (λ a b l k. both_orders (overlap_at ss) (length ss) (λ i j u v. pairs_at R ss no_span pairs i j u v) a b k)))

-- A text answered line by line, from any place in it on. Assumes nothing.
use Rattle.std.proofs.Common.{◌≡◌, ℕ, ◌≤◌, List, [], ◌∷◌, ◌++◌, length, map, take, Option, Some, None, sym, refl, ap, ◌∙◌, subst, append_assoc, append-nil}
use Rattle.std.specs.Option.{IfSome}
use Rattle.std.specs.Io.KnownBytes.{Appends, Consumes, IsAtEnd, Keeps}
use Rattle.lines.specs.Lines.{lines_of, last_line, with_line, handed_out, kept_of, NoLineFeed}
use Rattle.lines.proofs.Feeding.{feeding_gives_lines, held_part, handed_line}
use Rattle.dialogue.specs.Dialogues.{AnsweredOn, Dialogue, over, line, Served, next_number}

pub appends_none : (a : Option (List ℕ)) → Appends a a []
appends_none None = tt
appends_none (Some xs) = sym (append-nil xs)

pub appends_both : (a b c : Option (List ℕ)) (xs ys : List ℕ) → Appends a b xs → Appends b c ys → Appends a c (xs ++ ys)
appends_both None b c xs ys p q = tt
appends_both (Some x) None c xs ys p q = absurd p
appends_both (Some x) (Some y) None xs ys p q = absurd q
appends_both (Some x) (Some y) (Some z) xs ys p q = q ∙ ap (λ l. l ++ ys) p ∙ append_assoc x xs ys

module _ {S : Type 0} (answers : S → ℕ → List ℕ → S → List ℕ → Type 0) where
  -- what was printed so far; with the answers to what is left it is the answers to the whole
  pub record Going (text : List ℕ) (first : S) (was : Option (List ℕ)) (rest held : List ℕ) (s : S) (n : ℕ) (now : Option (List ℕ)) : Type 0 where
    pub printed : List ℕ
    pub appended : Appends was now printed
    pub more : (u : S) (qs : List ℕ) → Dialogue answers s n (handed_out held rest) u qs → Dialogue answers first 1 (handed_out [] text) u (printed ++ qs)

  -- the same, where the text is known
  abbrev pub KnownGoing : Option (List ℕ) → Option (List ℕ) → S → Option (List ℕ) → List ℕ → S → ℕ → Option (List ℕ) → Type 0
  KnownGoing text left first was held s n now = IfSome text (λ bytes. (rest : List ℕ) × (left ≡ Some rest) × Going bytes first was rest held s n now)

  going_first : (text : List ℕ) (first : S) (was : Option (List ℕ)) → Going text first was text [] first 1 was
  going_first text first was = record { printed = []; appended = appends_none was; more = λ u qs d. d }

  pub known_first : (text : Option (List ℕ)) (first : S) (was : Option (List ℕ)) → KnownGoing text text first was [] first 1 was
  known_first None first was = tt
  known_first (Some bytes) first was = (bytes, refl, going_first bytes first was)

  -- what was printed of a piece of a text, from what was held of a line on
  abbrev pub AnsweredSo : List ℕ → List ℕ → S → ℕ → Option (List ℕ) → List ℕ → S → ℕ → Option (List ℕ) → Type 0
  AnsweredSo piece was s n then held t m now = (printed : List ℕ) × AnsweredOn answers piece was s n held t m printed × Appends then now printed

  pub answered_first : (held : List ℕ) (s : S) (n : ℕ) (now : Option (List ℕ)) → AnsweredSo [] held s n now held s n now
  answered_first held s n now = ([], λ rest u qs d. d, appends_none now)

  -- a line, which was answered
  pub answered_line : (end was : List ℕ) (s : S) (n : ℕ) (then : Option (List ℕ)) (given next : List ℕ) (t : S) (m : ℕ) (now : Option (List ℕ))
      → NoLineFeed end → length was ≤ 81 → given ≡ take 81 (was ++ end) → next ≡ [] → m ≡ next_number n
      → (bs : List ℕ) × answers s n given t bs × Appends then now bs
      → AnsweredSo (end ++ 10 ∷ []) was s n then next t m now
  answered_line end was s n then given next t m now none few e f o said =
      let answered : answers s n (take 81 (was ++ end)) t said.0 = subst (λ g. answers s n g t said.0) e said.1 in (
        said.0,
        λ rest u qs d. subst (λ ls. Dialogue answers s n ls u (said.0 ++ qs)) (sym (ap (handed_out was) (append_assoc end (10 ∷ []) rest) ∙ handed_line end rest was none few))
            (line answered (subst (λ j. Dialogue answers t j (handed_out [] rest) u qs) o (subst (λ h. Dialogue answers t m (handed_out h rest) u qs) f d))),
        said.2,
      )

  -- bytes that end no line
  pub answered_part : (part was : List ℕ) (s : S) (n : ℕ) (now : Option (List ℕ)) (next : List ℕ)
      → NoLineFeed part → length was ≤ 81 → next ≡ take 81 (was ++ part) → AnsweredSo part was s n now next s n now
  answered_part part was s n now next none few e = (
    [],
    λ rest u qs d. subst (λ ls. Dialogue answers s n ls u qs) (sym (held_part part rest was none few)) (subst (λ h. Dialogue answers s n (handed_out h rest) u qs) e d),
    appends_none now,
  )

  -- one piece after another
  pub answered_both : (p q was : List ℕ) (s : S) (n : ℕ) (then : Option (List ℕ)) (held : List ℕ) (t : S) (m : ℕ) (now : Option (List ℕ)) (next : List ℕ) (u : S) (k : ℕ) (last : Option (List ℕ))
      → AnsweredSo p was s n then held t m now → AnsweredSo q held t m now next u k last → AnsweredSo (p ++ q) was s n then next u k last
  answered_both p q was s n then held t m now next u k last a b = (
    a.0 ++ b.0,
    λ rest v qs d. subst (λ x. Dialogue answers s n (handed_out was x) v ((a.0 ++ b.0) ++ qs)) (sym (append_assoc p q rest))
        (subst (Dialogue answers s n (handed_out was (p ++ (q ++ rest))) v) (sym (append_assoc a.0 b.0 qs)) (a.1 (q ++ rest) v (b.0 ++ qs) (b.1 rest v qs d))),
    appends_both then now last a.0 b.0 a.2 b.2,
  )

  -- what was printed of the front of a piece, of which the rest is left
  abbrev pub AnsweredFront : List ℕ → List ℕ → S → ℕ → Option (List ℕ) → List ℕ → List ℕ → S → ℕ → Option (List ℕ) → Type 0
  AnsweredFront piece was s n then rest held t m now = (front : List ℕ) × (piece ≡ front ++ rest) × AnsweredSo front was s n then held t m now

  pub front_first : (piece held : List ℕ) (s : S) (n : ℕ) (now : Option (List ℕ)) → AnsweredFront piece held s n now piece held s n now
  front_first piece held s n now = ([], refl, answered_first held s n now)

  -- a line of the rest was answered
  pub front_line : (piece was : List ℕ) (s : S) (n : ℕ) (then : Option (List ℕ)) (rest held : List ℕ) (t : S) (m : ℕ) (now : Option (List ℕ)) (end after next : List ℕ) (u : S) (k : ℕ) (last : Option (List ℕ))
      → rest ≡ end ++ 10 ∷ after → AnsweredSo (end ++ 10 ∷ []) held t m now next u k last
      → AnsweredFront piece was s n then rest held t m now → AnsweredFront piece was s n then after next u k last
  front_line piece was s n then rest held t m now end after next u k last e a f = (
    f.0 ++ (end ++ 10 ∷ []),
    f.1 ∙ ap (λ l. f.0 ++ l) (e ∙ sym (append_assoc end (10 ∷ []) after)) ∙ sym (append_assoc f.0 (end ++ 10 ∷ []) after),
    answered_both f.0 (end ++ 10 ∷ []) was s n then held t m now next u k last f.2 a,
  )

  -- no line ends in the rest
  pub front_part : (piece was : List ℕ) (s : S) (n : ℕ) (then : Option (List ℕ)) (rest held : List ℕ) (t : S) (m : ℕ) (now : Option (List ℕ)) (next : List ℕ)
      → NoLineFeed rest → length held ≤ 81 → next ≡ take 81 (held ++ rest)
      → AnsweredFront piece was s n then rest held t m now → AnsweredSo piece was s n then next t m now
  front_part piece was s n then rest held t m now next none few e f =
      subst (λ p. AnsweredSo p was s n then next t m now) (sym f.1)
      (answered_both f.0 rest was s n then held t m now next t m now f.2 (answered_part rest held t m now next none few e))

  -- where no line is left
  pub last_none : (held : List ℕ) (s : S) (n : ℕ) (now : Option (List ℕ)) → None ≡ last_line held
      → (printed : List ℕ) × Dialogue answers s n (handed_out held []) s printed × Appends now now printed
  last_none held s n now e = ([], subst (λ o. Dialogue answers s n (with_line o []) s []) e over, appends_none now)

  -- where one is left, which was answered
  pub last_some : (held : List ℕ) (s : S) (n : ℕ) (now : Option (List ℕ)) (l given : List ℕ) (t : S) (then : Option (List ℕ)) → Some l ≡ last_line held → given ≡ l
      → (bs : List ℕ) × answers s n given t bs × Appends now then bs
      → (printed : List ℕ) × Dialogue answers s n (handed_out held []) t printed × Appends now then printed
  last_some held s n now l given t then e i said =
      let answered : answers s n l t said.0 = subst (λ g. answers s n g t said.0) i said.1 in (
        said.0,
        subst (λ o. Dialogue answers s n (with_line o []) t said.0) e (subst (Dialogue answers s n (l ∷ []) t) (append-nil said.0) (line answered over)),
        said.2,
      )

  appends_kept : (a b c : Option (List ℕ)) (xs : List ℕ) → Appends a b xs → Keeps b c → Appends a c xs
  appends_kept None b c xs p q = tt
  appends_kept (Some x) None c xs p q = absurd p
  appends_kept (Some x) (Some y) None xs p q = absurd q
  appends_kept (Some x) (Some y) (Some z) xs p q = q ∙ p

  -- a piece was read, its lines were answered, and what was printed was flushed
  pub known_piece : (text left after : Option (List ℕ)) (first : S) (was : Option (List ℕ)) (held next piece : List ℕ) (s : S) (n : ℕ) (now : Option (List ℕ)) (t : S) (m : ℕ) (then last : Option (List ℕ))
      → Consumes left after piece → AnsweredSo piece held s n now next t m then → Keeps then last
      → KnownGoing text left first was held s n now → KnownGoing text after first was next t m last
  known_piece None left after first was held next piece s n now t m then last c a f k = tt
  known_piece (Some bytes) left None first was held next piece s n now t m then last c a f k =
      absurd (subst (λ x. Consumes x None piece) k.1 c)
  known_piece (Some bytes) left (Some ys) first was held next piece s n now t m then last c a f k =
      let rest : k.0 ≡ piece ++ ys = subst (λ x. Consumes x (Some ys) piece) k.1 c in
      let before : Going bytes first was (piece ++ ys) held s n now = subst (λ r. Going bytes first was r held s n now) rest k.2 in (
        ys,
        refl,
        record {
          printed = before.printed ++ a.0;
          appended = appends_kept was then last (before.printed ++ a.0) (appends_both was now then before.printed a.0 before.appended a.2) f;
          more = λ u qs d. subst (Dialogue answers first 1 (handed_out [] bytes) u) (sym (append_assoc before.printed a.0 qs)) (before.more u (a.0 ++ qs) (a.1 ys u qs d));
        },
      )

  -- the first 81 bytes of each line said how it is answered
  uncut : ((s t : S) (n : ℕ) (l bytes : List ℕ) → answers s n (take 81 l) t bytes → answers s n l t bytes)
      → (ls : List (List ℕ)) (s : S) (n : ℕ) (u : S) (qs : List ℕ) → Dialogue answers s n (map kept_of ls) u qs → Dialogue answers s n ls u qs
  uncut b [] s n u qs d = d
  uncut b (l ∷ ls) s n u qs (line a d) = line (b _ _ _ _ _ a) (uncut b ls _ _ _ _ d)

  done : ((s t : S) (n : ℕ) (l bytes : List ℕ) → answers s n (take 81 l) t bytes → answers s n l t bytes)
      → (text : List ℕ) (first : S) (u : S) (qs : List ℕ) → Dialogue answers first 1 (handed_out [] text) u qs → Dialogue answers first 1 (lines_of text) u qs
  done b text first u qs d = uncut b (lines_of text) first 1 u qs (subst (λ ls. Dialogue answers first 1 ls u qs) (feeding_gives_lines text) d)

  -- nothing was left of the text, what was left of a line was answered, and what was printed was flushed
  pub known_end : ((s t : S) (n : ℕ) (l bytes : List ℕ) → answers s n (take 81 l) t bytes → answers s n l t bytes)
      → (text left after : Option (List ℕ)) (first : S) (was : Option (List ℕ)) (held : List ℕ) (s : S) (n : ℕ) (now : Option (List ℕ)) (t : S) (then last : Option (List ℕ))
      → Consumes left after [] → IsAtEnd after → (printed : List ℕ) × Dialogue answers s n (handed_out held []) t printed × Appends now then printed → Keeps then last
      → KnownGoing text left first was held s n now → Served answers text first t was last
  known_end b None left after first was held s n now t then last c end a f k = tt
  known_end b (Some text) left None first was held s n now t then last c end a f k =
      absurd (subst (λ x. Consumes x None []) k.1 c)
  known_end b (Some text) left (Some ys) first was held s n now t then last c end a f k =
      let none : k.0 ≡ [] = subst (λ x. Consumes x (Some ys) []) k.1 c ∙ end in
      let before : Going text first was [] held s n now = subst (λ r. Going text first was r held s n now) none k.2 in (
        before.printed ++ a.0,
        done b text first t (before.printed ++ a.0) (before.more t a.0 a.1),
        appends_kept was then last (before.printed ++ a.0) (appends_both was now then before.printed a.0 before.appended a.2) f,
      )

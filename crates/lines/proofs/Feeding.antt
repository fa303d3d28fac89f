-- The lines of a text are handed out. Assumes nothing.
use Rattle.std.proofs.Common.{◌≡◌, ℕ, zero, suc, ◌≤◌, Bool, true, false, cond, eqb, List, [], ◌∷◌, ◌++◌, length, map, take, sym, refl, ap, ◌∙◌, arith, append-nil, length-take, take_all}
use Rattle.std.specs.Prelude.{◌==◌}
use Rattle.lines.specs.Lines.{in_front, lines_of, last_line, with_line, handed_out, kept_of, NoLineFeed, FeedingGivesLines}

-- the lines with several bytes in front
abbrev pub with_front : List ℕ → List (List ℕ) → List (List ℕ)
with_front [] ls = ls
with_front (b ∷ bs) [] = (b ∷ bs) ∷ []
with_front (b ∷ bs) (l ∷ ls) = ((b ∷ bs) ++ l) ∷ ls

front_ended : (p : List ℕ) (ls : List (List ℕ)) → with_front p ([] ∷ ls) ≡ p ∷ ls
front_ended [] ls = refl
front_ended (b ∷ bs) ls = ap (λ l. l ∷ ls) (append-nil (b ∷ bs))

one_more : (p xs : List ℕ) (b : ℕ) → (p ++ b ∷ []) ++ xs ≡ p ++ b ∷ xs
one_more [] xs b = refl
one_more (c ∷ p) xs b = ap (λ l. c ∷ l) (one_more p xs b)

front_more : (p : List ℕ) (b : ℕ) (ls : List (List ℕ)) → with_front p (in_front b ls) ≡ with_front (p ++ b ∷ []) ls
front_more [] b [] = refl
front_more [] b (l ∷ ls) = refl
front_more (c ∷ p) b [] = refl
front_more (c ∷ p) b (l ∷ ls) = ap (λ l. (c ∷ l) ∷ ls) (sym (one_more p l b))

-- what is kept is enough to go on
take_twice : (n : ℕ) (p xs : List ℕ) → take n (take n p ++ xs) ≡ take n (p ++ xs)
take_twice zero p xs = refl
take_twice (suc n) [] xs = refl
take_twice (suc n) (c ∷ p) xs = ap (λ l. c ∷ l) (take_twice n p xs)

last_given : (n : ℕ) (p : List ℕ) → with_line (last_line (take (suc n) p)) [] ≡ map (take (suc n)) (with_front p [])
last_given n [] = refl
last_given n (b ∷ bs) = refl

step : (n : ℕ) (p bs : List ℕ) (b : ℕ) (t : Bool) (out : List ℕ → List (List ℕ)) → ((q : List ℕ) → out (take (suc n) q) ≡ map (take (suc n)) (with_front q (lines_of bs)))
    → cond t (take (suc n) p ∷ out []) (out (take (suc n) (take (suc n) p ++ b ∷ []))) ≡ map (take (suc n)) (with_front p (cond t ([] ∷ lines_of bs) (in_front b (lines_of bs))))
step n p bs b true out more = ap (λ ls. take (suc n) p ∷ ls) (more []) ∙ ap (map (take (suc n))) (sym (front_ended p (lines_of bs)))
step n p bs b false out more = ap out (take_twice (suc n) p (b ∷ [])) ∙ more (p ++ b ∷ []) ∙ ap (map (take (suc n))) (sym (front_more p b (lines_of bs)))

given : (text p : List ℕ) → handed_out (take 81 p) text ≡ map kept_of (with_front p (lines_of text))
given [] p = last_given 80 p
given (b ∷ bs) p = step 80 p bs b (eqb b 10) (λ h. handed_out h bs) (λ q. given bs q)

pub feeding_gives_lines : FeedingGivesLines
feeding_gives_lines text = given text []

-- a byte that ends no line is held
kept : (b : ℕ) (bs held : List ℕ) → (b == 10) ≡ false → handed_out held (b ∷ bs) ≡ handed_out (take 81 (held ++ b ∷ [])) bs
kept b bs held e = λ i. cond (e i) (held ∷ handed_out [] bs) (handed_out (take 81 (held ++ b ∷ [])) bs)

held_twice : (held bs : List ℕ) (b : ℕ) → take 81 (take 81 (held ++ b ∷ []) ++ bs) ≡ take 81 (held ++ b ∷ bs)
held_twice held bs b = take_twice 81 (held ++ b ∷ []) bs ∙ ap (take 81) (one_more held bs b)

few_held : (bs : List ℕ) → length (take 81 bs) ≤ 81
few_held bs = omega (arith, length-take 81 bs)

nothing_more : (held : List ℕ) → length held ≤ 81 → take 81 (held ++ []) ≡ held
nothing_more held few = ap (take 81) (append-nil held) ∙ take_all 81 held few

-- bytes that end no line are held
pub held_part : (part rest held : List ℕ) → NoLineFeed part → length held ≤ 81 → handed_out held (part ++ rest) ≡ handed_out (take 81 (held ++ part)) rest
held_part [] rest held none few = ap (λ h. handed_out h rest) (sym (nothing_more held few))
held_part (b ∷ part) rest held none few =
    kept b (part ++ rest) held none.0 ∙ held_part part rest (take 81 (held ++ b ∷ [])) none.1 (few_held (held ++ b ∷ [])) ∙ ap (λ h. handed_out h rest) (held_twice held part b)

-- a line feed hands out the line
pub handed_line : (line rest held : List ℕ) → NoLineFeed line → length held ≤ 81 → handed_out held (line ++ 10 ∷ rest) ≡ take 81 (held ++ line) ∷ handed_out [] rest
handed_line line rest held none few = held_part line (10 ∷ rest) held none few

-- Several numbers on a line. Assumes nothing.
use Rattle.std.proofs.Common.{◌≡◌, ℕ, zero, suc, ◌+◌, ◌<◌, ◌≤◌, List, [], ◌∷◌, ◌++◌, length, get_or, take, drop, set, sym, refl, ap, ◌∙◌, subst, append_assoc, append-nil, arith, length-set, length-take-le, take_all, drop-cons}
use Rattle.std.proofs.ByRecursion.{All-get_or, All-push}
use Rattle.std.proofs.lemmas.List.{take_more_set}
use Rattle.std.specs.List.{AllByRecursion as All}
use Rattle.numbers.specs.Numbers.{NoDigitFirst, IsShort, spaced, spaced_all}
use Rattle.numbers.proofs.Nums.{same_number}

pub stops_all : (ns : List ℕ) → NoDigitFirst (spaced_all ns)
stops_all [] h d = omega arith
stops_all (n ∷ ns) h d = omega arith

stops-front : (xs rest : List ℕ) → (length xs ≡ 0 → NoDigitFirst rest) → NoDigitFirst (spaced_all xs ++ rest)
stops-front [] rest s = s refl
stops-front (x ∷ xs) rest s = λ h d. omega arith

-- what is left of a line of numbers, once the first are known
pub peel : (xs ns rest : List ℕ) → All IsShort xs → All IsShort ns → length xs ≤ length ns → (0 < length xs → NoDigitFirst rest) → spaced_all xs ++ rest ≡ spaced_all ns → rest ≡ spaced_all (drop (length xs) ns)
peel [] ns rest p q l s e = e
peel (x ∷ xs) [] rest p q l s e = absurd (omega arith)
peel (x ∷ xs) (n ∷ ns) rest p q l s e =
    let t : spaced x ++ (spaced_all xs ++ rest) ≡ spaced n ++ spaced_all ns = sym (append_assoc (spaced x) (spaced_all xs) rest) ∙ e in
    let i = same_number x n (spaced_all xs ++ rest) (spaced_all ns) p.0 q.0 (stops-front xs rest (λ z. s (omega arith))) (stops_all ns) t in
    peel xs ns rest p.1 q.1 (omega arith) (λ z. s (omega arith)) i.1

pub push : (xs : List ℕ) (n : ℕ) (rest : List ℕ) → spaced_all (xs ++ n ∷ []) ++ rest ≡ spaced_all xs ++ (spaced n ++ rest)
push [] n rest = ap (λ l. l ++ rest) (append-nil (spaced n))
push (x ∷ xs) n rest = append_assoc (spaced x) (spaced_all (xs ++ n ∷ [])) rest ∙ ap (λ l. spaced x ++ l) (push xs n rest) ∙ sym (append_assoc (spaced x) (spaced_all xs) (spaced n ++ rest))

-- the first i of ns were read, and rest is left
pub record Sofar (k : ℕ) (s ns : List ℕ) (i : ℕ) (rest : List ℕ) : Type 0 where
  pub long : length ns ≡ k
  pub small : All IsShort (take i ns)
  pub split : s ≡ spaced_all (take i ns) ++ rest
  pub stops : 0 < i → NoDigitFirst rest

module _ (k : ℕ) (s ns : List ℕ) (i : ℕ) (rest : List ℕ) (h : Sofar k s ns i rest) (le : i ≤ k) where
  front : length (take i ns) ≡ i
  front = length-take-le i ns (omega (arith, h.long))

  -- a line of k numbers goes on with what is left of them
  pub left-of : (ms : List ℕ) → length ms ≡ k → All IsShort ms → s ≡ spaced_all ms → rest ≡ spaced_all (drop i ms)
  left-of ms l a e =
      let f = front in
      peel (take i ns) ms rest h.small a (omega arith) (λ z. h.stops (omega arith)) (sym h.split ∙ e) ∙ ap (λ j. spaced_all (drop j ms)) f

  pub stuck : i < k → ((n : ℕ) (t : List ℕ) → IsShort n → NoDigitFirst t → rest ≡ spaced n ++ t → ⊥) → (ms : List ℕ) → length ms ≡ k → All IsShort ms → s ≡ spaced_all ms → ⊥
  stuck lt none ms l a e =
      let lt' : i < length ms = omega arith in
      none (get_or ms i 0) (spaced_all (drop (suc i) ms)) (All-get_or IsShort ms i 0 lt' a) (stops_all (drop (suc i) ms)) (left-of ms l a e ∙ ap spaced_all (drop-cons ms i 0 lt'))

  pub one_more : i < k → (n : ℕ) (t : List ℕ) → IsShort n → NoDigitFirst t → rest ≡ spaced n ++ t → Sofar k s (set ns i n) (i + 1) t
  one_more lt n t sm st e =
      let lt' : i < length ns = omega (arith, h.long) in
      let t' = take_more_set ns i n lt' in
      record {
        long = length-set ns i n ∙ h.long;
        small = subst (All IsShort) (sym t') (All-push IsShort (take i ns) n h.small sm);
        split = h.split ∙ ap (λ l. spaced_all (take i ns) ++ l) e ∙ sym (push (take i ns) n t) ∙ ap (λ l. spaced_all l ++ t) (sym t');
        stops = λ z. st;
      }

  drop_all : (ms : List ℕ) (j : ℕ) → length ms ≤ j → drop j ms ≡ []
  drop_all [] zero l = refl
  drop_all [] (suc j) l = refl
  drop_all (m ∷ ms) zero l = absurd (omega arith)
  drop_all (m ∷ ms) (suc j) l = drop_all ms j (omega arith)

  pub over : i ≡ k → 0 < length rest → (ms : List ℕ) → length ms ≡ k → All IsShort ms → s ≡ spaced_all ms → ⊥
  over z more ms l a e = omega (arith, ap length (left-of ms l a e ∙ ap spaced_all (drop_all ms i (omega arith))))

  pub whole : i ≡ k → length rest ≡ 0 → (length ns ≡ k) × All IsShort ns × (s ≡ spaced_all ns)
  whole z none =
      let all : take i ns ≡ ns = take_all i ns (omega (arith, h.long)) in
      let nil : rest ≡ [] = empty rest none in
      (h.long, subst (All IsShort) all h.small, h.split ∙ (λ j. spaced_all (all j) ++ nil j) ∙ append-nil (spaced_all ns))
    where
      empty : (l : List ℕ) → length l ≡ 0 → l ≡ []
      empty [] e = refl
      empty (x ∷ l) e = absurd (omega arith)

-- k elements of a list, from the i-th
abbrev pub cells : ℕ → ℕ → List ℕ → List ℕ
cells zero i ns = []
cells (suc k) i ns = get_or ns i 0 ∷ cells k (suc i) ns

cells-tail : (k i n : ℕ) (ns : List ℕ) → cells k (suc i) (n ∷ ns) ≡ cells k i ns
cells-tail zero i n ns = refl
cells-tail (suc k) i n ns = ap (λ l. get_or ns i 0 ∷ l) (cells-tail k (suc i) n ns)

all-cells : (k : ℕ) (ns : List ℕ) → length ns ≡ k → ns ≡ cells k 0 ns
all-cells zero [] e = refl
all-cells zero (n ∷ ns) e = absurd (omega arith)
all-cells (suc k) [] e = absurd (omega arith)
all-cells (suc k) (n ∷ ns) e = ap (λ l. n ∷ l) (all-cells k ns (omega arith) ∙ sym (cells-tail k 0 n ns))

-- a letter and k numbers that were read
pub accept : (l L k : ℕ) (rest ns : List ℕ) → l ≡ L → (length ns ≡ k) × All IsShort ns × (rest ≡ spaced_all ns) → All IsShort (cells k 0 ns) × (l ∷ rest ≡ L ∷ spaced_all (cells k 0 ns))
accept l L k rest ns e h =
    let same = all-cells k ns h.0 in
    (subst (All IsShort) same h.1, (λ i. e i ∷ (h.2 ∙ ap spaced_all same) i))

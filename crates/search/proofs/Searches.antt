-- What a search says, and how a loop meets it. Assumes nothing.
use Rattle.std.proofs.Common.{◌≡◌, ℕ, zero, suc, ◌+◌, ◌<◌, ◌≤◌, max, Bool, Decides, true, false, cond, ◌&&◌, ◌⊎◌, List, [], ◌∷◌, map, length, get_or, drop, ◌-◌, ltb, Some, None, Option, sym, refl, ap, ◌∙◌, subst, ap₂, inl, inr, arith}
use Rattle.std.proofs.lemmas.Bool.Decides.{same_from_decides, Decides-below_or}
use Rattle.std.proofs.lemmas.Bool.{cond-true, cond-false, cond_both, cases_order, cases_lt, lt-ltb, le-ltb}
use Rattle.std.specs.Option.{option_map, unwrap_or}
use Rattle.std.specs.List.{position, position_or_len, fold, reduce, find, range_with_len}
use Rattle.std.proofs.lemmas.List.{get_or-drop, length-drop, get_or_read}
use Rattle.std.proofs.lemmas.List.Sums.{fails_before_first, passes_at_first}
use Rattle.search.specs.Searches.{first_from, first_below, some_below, highest, tested, paired, beside, scan_from, scan_pairs, Scanned}

module _ (p : ℕ → Bool) where
  -- a loop that stops at k
  pub first_found : (i m k : ℕ) → i ≤ k → k < i + m → ((a : ℕ) → a < k → p a ≡ false) → p k ≡ true → first_from p i m ≡ Some k
  first_found i zero k h l f t = absurd (omega arith)
  first_found i (suc m) k h l f t =
      elim (cases_order i k) [
        | inl e ↦ cond-true (p i) _ _ (ap p e ∙ t) ∙ ap Some e
        | inr o ↦ elim o [ inl s ↦ cond-false (p i) _ _ (f i s) ∙ first_found (i + 1) m k (omega arith) (omega arith) f t | inr s ↦ absurd (omega arith) ]
      ]

  -- a loop that stops nowhere
  pub first-none : (i m : ℕ) → ((a : ℕ) → a < i + m → p a ≡ false) → first_from p i m ≡ None
  first-none i zero f = refl
  first-none i (suc m) f = cond-false (p i) _ _ (f i (omega arith)) ∙ first-none (i + 1) m (λ a l. f a (omega arith))

  abbrev pub FirstTells : ℕ → ℕ → Option ℕ → Type 0
  FirstTells lo hi None = (a : ℕ) → lo ≤ a → a < hi → p a ≡ false
  FirstTells lo hi (Some k) = (lo ≤ k) × (k < hi) × (p k ≡ true) × ((a : ℕ) → lo ≤ a → a < k → p a ≡ false)

  split : (i a : ℕ) → p i ≡ false → i ≤ a → (i + 1 ≤ a → p a ≡ false) → p a ≡ false
  split i a e h f = elim (cases_order i a) [ inl q ↦ sym (ap p q) ∙ e | inr o ↦ elim o [ inl s ↦ f (omega arith) | inr s ↦ absurd (omega arith) ] ]

  first_step : (i hi : ℕ) (o : Option ℕ) → p i ≡ false → FirstTells (i + 1) hi o → FirstTells i hi o
  first_step i hi None e f = λ a u v. split i a e u (λ w. f a w v)
  first_step i hi (Some k) e f = (omega (arith, f.0), f.1, f.2, λ a u v. split i a e u (λ w. f.3 a w v))

  pub first-tells : (i m hi : ℕ) → i + m ≡ hi → FirstTells i hi (first_from p i m)
  first-tells i zero hi e = λ a u v. absurd (omega arith)
  first-tells i (suc m) hi e =
      cond_both (p i) (Some i) (first_from p (i + 1) m) (FirstTells i hi)
      (λ t. (omega arith, omega arith, t, λ a u v. absurd (omega arith)))
      (λ t. first_step i hi (first_from p (i + 1) m) t (first-tells (i + 1) m hi (omega arith)))

module _ (p : ℕ → ℕ → Bool) (m n : ℕ) where
  -- no two places whose first is below i
  abbrev pub Clear : ℕ → Type 0
  Clear i = (a b : ℕ) → a < i → b < n → p a b ≡ false

  pub clear_more : (i : ℕ) → Clear i → FirstTells (p i) 0 n None → Clear (i + 1)
  clear_more i c f a b u v =
      elim (cases_order a i) [ inl q ↦ ap (λ x. p x b) q ∙ f b (omega arith) v | inr o ↦ elim o [ inl s ↦ c a b s v | inr s ↦ absurd (omega arith) ] ]

  -- the first place is i
  pub scanned_here : (i j : ℕ) → i < m → Clear i → FirstTells (p i) 0 n (Some j) → Scanned p m n (Some (i, j))
  scanned_here i j l c f = (l, f.1, f.2, λ a b u v e. elim e [ inl s ↦ c a b s v | inr s ↦ ap (λ x. p x b) s.0 ∙ f.3 b (omega arith) s.1 ])

  step : (i : ℕ) (o : Option ℕ) (rest : Option (ℕ × ℕ)) → i < m → Clear i → FirstTells (p i) 0 n o → (Clear (i + 1) → Scanned p m n rest) → Scanned p m n (beside i o rest)
  step i None rest l c f next = next (clear_more i c f)
  step i (Some j) rest l c f next = scanned_here i j l c f

  scanned_from : (i k : ℕ) → i + k ≡ m → Clear i → Scanned p m n (scan_from p n i k)
  scanned_from i zero e c = λ a b u v. c a b (omega arith) v
  scanned_from i (suc k) e c =
      step i (first_below (p i) n) (scan_from p n (i + 1) k) (omega arith) c (first-tells (p i) 0 n n (omega arith)) (λ d. scanned_from (i + 1) k (omega arith) d)

  pub scanned : Scanned p m n (scan_pairs p m n)
  scanned = scanned_from 0 m (omega arith) (λ a b u v. absurd (omega arith))

module _ (p : ℕ → ℕ → Bool) (n : ℕ) where
  -- a loop over first places that stops at k
  pub scan-found : (i m k j : ℕ) → i ≤ k → k < i + m → ((a : ℕ) → a < k → first_below (p a) n ≡ None) → first_below (p k) n ≡ Some j → scan_from p n i m ≡ Some (k, j)
  scan-found i zero k j h l f t = absurd (omega arith)
  scan-found i (suc m) k j h l f t =
      elim (cases_order i k) [
        | inl e ↦ ap (λ o. beside i o (scan_from p n (i + 1) m)) (ap (λ a. first_below (p a) n) e ∙ t) ∙ ap (λ a. Some (a, j)) e
        | inr o ↦ elim o [
          | inl s ↦ ap (λ o. beside i o (scan_from p n (i + 1) m)) (f i s) ∙ scan-found (i + 1) m k j (omega arith) (omega arith) f t
          | inr s ↦ absurd (omega arith)
        ]
      ]

  -- a loop over first places that stops nowhere
  pub scan-none : (i m : ℕ) → ((a : ℕ) → a < i + m → first_below (p a) n ≡ None) → scan_from p n i m ≡ None
  scan-none i zero f = refl
  scan-none i (suc m) f = ap (λ o. beside i o (scan_from p n (i + 1) m)) (f i (omega arith)) ∙ scan-none (i + 1) m (λ a l. f a (omega arith))

-- where the second place begins, and what stands before
pub tested-before : (o : Bool) (p : ℕ → ℕ → Bool) (i s j : ℕ) → s ≡ cond o (i + 1) 0 → j < s → tested o p i j ≡ false
tested-before true p i s j e l = ap (λ t. t && p i j) (le-ltb i j (omega arith))
tested-before false p i s j e l = absurd (omega arith)

pub tested-from : (o : Bool) (p : ℕ → ℕ → Bool) (i s j : ℕ) → s ≡ cond o (i + 1) 0 → s ≤ j → tested o p i j ≡ p i j
tested-from true p i s j e l = ap (λ t. t && p i j) (lt-ltb i j (omega arith))
tested-from false p i s j e l = refl

-- tests that agree where they hold are one
pub same_test : (r t : Bool) → (r ≡ true → t ≡ true) → (t ≡ true → r ≡ true) → r ≡ t
same_test r t f g = same_from_decides r t (f, g) (λ e. e, λ e. e)

-- what the test of some place decides
pub some_below-decides : (p : ℕ → Bool) (n : ℕ) → Decides (some_below p n) ((c : ℕ) × (c < n) × (p c ≡ true))
some_below-decides p n = Decides-below_or p (λ c. p c ≡ true) (some_below p) (λ c. (λ e. e, λ e. e)) refl (λ m. refl) n

pub some_below-has : (p : ℕ → Bool) (n : ℕ) → some_below p n ≡ true → (c : ℕ) × (c < n) × (p c ≡ true)
some_below-has p n e = (some_below-decides p n).0 e

pub some_below-from : (p : ℕ → Bool) (n c : ℕ) → c < n → p c ≡ true → some_below p n ≡ true
some_below-from p n c l e = (some_below-decides p n).1 (c, l, e)

pub highest-bound : (f : ℕ → ℕ) (n i : ℕ) → i < n → f i ≤ highest f n
highest-bound f zero i h = absurd (omega arith)
highest-bound f (suc n) i h = elim (cases_lt i n) [
  | inl s ↦ let q = highest-bound f n i s in omega arith
  | inr s ↦ let q : f i ≡ f n = ap f (omega arith) in omega arith
]

pub highest-met : (f : ℕ → ℕ) (n : ℕ) → (highest f n ≡ 0) ⊎ ((i : ℕ) × (i < n) × (f i ≡ highest f n))
highest-met f zero = inl refl
highest-met f (suc n) = elim (cases_lt (f n) (highest f n)) [
  | inr s ↦ inr (n, omega arith, omega arith)
  | inl s ↦ elim (highest-met f n) [ inl z ↦ absurd (omega arith) | inr r ↦ inr (r.0, omega (arith, r.1), omega (arith, r.2)) ]
]

-- searches by tests that agree find the same
pub first_like : (p q : ℕ → Bool) (i m : ℕ) → ((a : ℕ) → a < i + m → p a ≡ q a) → first_from p i m ≡ first_from q i m
first_like p q i zero f = refl
first_like p q i (suc m) f = ap₂ (λ t o. cond t (Some i) o) (f i (omega arith)) (first_like p q (i + 1) m (λ a l. f a (omega arith)))

scan_from_like : (p q : ℕ → ℕ → Bool) (n i m : ℕ) → ((a b : ℕ) → a < i + m → b < n → p a b ≡ q a b) → scan_from p n i m ≡ scan_from q n i m
scan_from_like p q n i zero f = refl
scan_from_like p q n i (suc m) f =
    ap₂ (beside i) (first_like (p i) (q i) 0 n (λ b l. f i b (omega arith) (omega arith))) (scan_from_like p q n (i + 1) m (λ a b l k. f a b (omega arith) k))

pub scan_like : (p q : ℕ → ℕ → Bool) (m n : ℕ) → ((a b : ℕ) → a < m → b < n → p a b ≡ q a b) → scan_pairs p m n ≡ scan_pairs q m n
scan_like p q m n f = scan_from_like p q n 0 m (λ a b l k. f a b (omega arith) k)

-- what is made of the places that a search finds, by functions that agree on first places
mapped_like : {X : Type 0} (f g : ℕ × ℕ → X) (p : ℕ → ℕ → Bool) (m n : ℕ) (o : Option (ℕ × ℕ)) → Scanned p m n o → ((q : ℕ × ℕ) → q.0 < m → f q ≡ g q) → option_map f o ≡ option_map g o
mapped_like f g p m n None s h = refl
mapped_like f g p m n (Some q) s h = ap Some (h q s.0)

pub named_like : {X : Type 0} (f g : ℕ × ℕ → X) (p : ℕ → ℕ → Bool) (m n : ℕ) → ((q : ℕ × ℕ) → q.0 < m → f q ≡ g q) → option_map f (scan_pairs p m n) ≡ option_map g (scan_pairs p m n)
named_like f g p m n h = mapped_like f g p m n (scan_pairs p m n) (scanned p m n) h

mapped_none : {X Y : Type 0} (f : X → Y) (o : Option X) → option_map f o ≡ None → o ≡ None
mapped_none f None e = refl
mapped_none f (Some x) e = cc

-- where a search finds nothing the test fails everywhere
pub nothing_found : {X : Type 0} (f : ℕ × ℕ → X) (p : ℕ → ℕ → Bool) (m n : ℕ) → option_map f (scan_pairs p m n) ≡ None → (a b : ℕ) → a < m → b < n → p a b ≡ false
nothing_found f p m n e = subst (Scanned p m n) (mapped_none f (scan_pairs p m n) e) (scanned p m n)

-- a test that holds only below m
pub some_below_narrow : (p : ℕ → Bool) (m n : ℕ) → m ≤ n → ((c : ℕ) → p c ≡ true → c < m) → some_below p n ≡ some_below p m
some_below_narrow p m n h f =
    same_test (some_below p n) (some_below p m)
    (λ e. let q = some_below-has p n e in some_below-from p m q.0 (f q.0 q.2) q.2)
    (λ e. let q = some_below-has p m e in some_below-from p n q.0 (omega (arith, q.1)) q.2)

pub highest_like : (f g : ℕ → ℕ) (n : ℕ) → ((i : ℕ) → i < n → f i ≡ g i) → highest f n ≡ highest g n
highest_like f g zero h = refl
highest_like f g (suc n) h = ap₂ max (highest_like f g n (λ i l. h i (omega arith))) (h n (omega arith))

-- a search by a test of the first place alone
scan_from_one : (p : ℕ → Bool) (i m : ℕ) → scan_from (λ a b. p a) 1 i m ≡ option_map (λ a. (a, 0)) (first_from p i m)
scan_from_one p i zero = refl
scan_from_one p i (suc m) = one (p i) (scan_from_one p (i + 1) m)
  where
    one : (t : Bool) → scan_from (λ a b. p a) 1 (i + 1) m ≡ option_map (λ a. (a, 0)) (first_from p (i + 1) m)
        → beside i (cond t (Some 0) None) (scan_from (λ a b. p a) 1 (i + 1) m) ≡ option_map (λ a. (a, 0)) (cond t (Some i) (first_from p (i + 1) m))
    one true e = refl
    one false e = e

pub scan_one : (p : ℕ → Bool) (n : ℕ) → scan_pairs (λ i j. p i) n 1 ≡ option_map (λ i. (i, 0)) (first_below p n)
scan_one p n = scan_from_one p 0 n

-- the first place whose element passes, in the library's word
pub position_first : {X : Type 0} (test : X → Bool) (xs : List X) (d : X) → position test xs ≡ first_below (λ i. test (get_or xs i d)) (length xs)
position_first test xs d =
    let p = position_or_len test xs in
    let n = length xs in
    let t = λ (i : ℕ). test (get_or xs i d) in
    elim (cases_lt p n) [
      | inl l ↦ cond-true (ltb p n) (Some p) None (lt-ltb p n l) ∙ sym (first_found t 0 n p (omega arith) (omega arith) (λ a h. fails_before_first test xs a d h) (passes_at_first test xs d l))
      | inr h ↦ cond-false (ltb p n) (Some p) None (le-ltb p n h) ∙ sym (first-none t 0 n (λ a l. fails_before_first test xs a d (omega arith)))
    ]

pub scan_position : {X : Type 0} (test : X → Bool) (xs : List X) (d : X) → scan_pairs (λ i j. test (get_or xs i d)) (length xs) 1 ≡ option_map (λ i. (i, 0)) (position test xs)
scan_position test xs d = scan_one (λ i. test (get_or xs i d)) (length xs) ∙ ap (option_map (λ i. (i, 0))) (sym (position_first test xs d))

-- what the search says names its answer
pub scan_is : (p : ℕ → ℕ → Bool) (m n : ℕ) (o : Option (ℕ × ℕ)) → Scanned p m n o → o ≡ scan_pairs p m n
scan_is p m n None f = sym (scan-none p n 0 m (λ a l. first-none (p a) 0 n (λ b k. f a b (omega arith) (omega arith))))
scan_is p m n (Some q) f =
    sym (scan-found p n 0 m q.0 q.1 (omega arith) (omega (arith, f.0)) (λ a l. first-none (p a) 0 n (λ b k. f.3 a b (omega (arith, f.0)) (omega arith) (inl l)))
    (first_found (p q.0) 0 n q.1 (omega arith) (omega (arith, f.1)) (λ b l. f.3 q.0 b f.0 (omega (arith, f.1)) (inr (refl, l))) f.2))

-- a first place i with its element x, and the elements behind it
module _ {X : Type 0} (passes : X → X → Bool) (xs : List X) (d : X) (i : ℕ) (x : X) (lt : i < length xs) (here : x ≡ get_or xs i x) where
  before_row : (a : ℕ) → a ≤ i → paired passes xs d i a ≡ false
  before_row a h = ap (λ t. t && passes (get_or xs i d) (get_or xs a d)) (le-ltb i a h)

  in_row : (a k : ℕ) → a ≡ i + 1 + k → paired passes xs d i a ≡ passes x (get_or (drop (i + 1) xs) k d)
  in_row a k e =
      ap (λ t. t && passes (get_or xs i d) (get_or xs a d)) (lt-ltb i a (omega arith))
      ∙ ap₂ passes (sym (get_or_read xs i x lt here d)) (ap (λ b. get_or xs b d) e ∙ sym (get_or-drop (i + 1) xs k d))

  row_from : (o : Option ℕ) → FirstTells (λ k. passes x (get_or (drop (i + 1) xs) k d)) 0 (length (drop (i + 1) xs)) o
      → FirstTells (paired passes xs d i) 0 (length xs) (option_map (λ k. i + 1 + k) o)
  row_from None f = λ a u v. elim (cases_lt i a) [
    | inl l ↦ in_row a (a - (i + 1)) (omega arith) ∙ f (a - (i + 1)) (omega arith) (omega (arith, length-drop (i + 1) xs))
    | inr l ↦ before_row a l
  ]
  row_from (Some k) f = (
    omega arith,
    omega (arith, f.1, length-drop (i + 1) xs),
    in_row (i + 1 + k) k refl ∙ f.2,
    λ a u v. elim (cases_lt i a) [
      | inl l ↦ in_row a (a - (i + 1)) (omega arith) ∙ f.3 (a - (i + 1)) (omega arith) (omega arith)
      | inr l ↦ before_row a l
    ],
  )

  -- a search among the elements behind it finds its first second place
  pub row_tells : FirstTells (paired passes xs d i) 0 (length xs) (option_map (λ k. i + 1 + k) (position (passes x) (drop (i + 1) xs)))
  row_tells =
      let ys = drop (i + 1) xs in
      let p = λ (k : ℕ). passes x (get_or ys k d) in
      row_from (position (passes x) ys) (subst (FirstTells p 0 (length ys)) (sym (position_first (passes x) ys d)) (first-tells p 0 (length ys) (length ys) (omega arith)))

pub first_is : (p : ℕ → Bool) (n : ℕ) (o : Option ℕ) → FirstTells p 0 n o → o ≡ first_below p n
first_is p n None f = sym (first-none p 0 n (λ a l. f a (omega arith) (omega arith)))
first_is p n (Some k) f = sym (first_found p 0 n k (omega arith) (omega (arith, f.1)) (λ a l. f.3 a (omega arith) l) f.2)

-- what `find` over a range answers
find_range_from : (p : ℕ → Bool) (i n : ℕ) → find p (range_with_len i n) ≡ first_from p i n
find_range_from p i zero = refl
find_range_from p i (suc n) = ap (cond (p i) (Some i)) (find_range_from p (i + 1) n)

pub find_range : (p : ℕ → Bool) (n : ℕ) → find p (range_with_len 0 n) ≡ first_below p n
find_range p n = find_range_from p 0 n

-- the first value joins the highest of the others
highest_first : (f : ℕ → ℕ) (n : ℕ) → highest f (suc n) ≡ max (f 0) (highest (λ i. f (suc i)) n)
highest_first f zero = omega arith
highest_first f (suc n) = let e = highest_first f n in omega arith

highest_fold : {X : Type 0} (f : X → ℕ) (a : ℕ) (xs : List X) (d : X) → fold max a (map f xs) ≡ max a (highest (λ i. f (get_or xs i d)) (length xs))
highest_fold f a [] d = omega arith
highest_fold f a (x ∷ xs) d = let e = highest_fold f (max a (f x)) xs d in let h = highest_first (λ i. f (get_or (x ∷ xs) i d)) (length xs) in omega arith

-- what `max` of a chain answers, with 0 where it is empty
pub highest_max : {X : Type 0} (f : X → ℕ) (xs : List X) (d : X) → unwrap_or (reduce max (map f xs)) 0 ≡ highest (λ i. f (get_or xs i d)) (length xs)
highest_max f [] d = refl
highest_max f (x ∷ xs) d = highest_fold f (f x) xs d ∙ sym (highest_first (λ i. f (get_or (x ∷ xs) i d)) (length xs))

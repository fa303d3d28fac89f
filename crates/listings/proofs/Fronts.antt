-- Lists that numbers give, joined from 0 on. Assumes nothing.
use Rattle.std.proofs.Common.{◌≡◌, ℕ, zero, suc, ◌+◌, ◌-◌, ◌<◌, ◌≤◌, Bool, List, [], ◌∷◌, ◌++◌, length, get_or, take, sum_by, refl, sym, ap, ◌∙◌, ap₂, subst, arith, zero-add, length-append}
use Rattle.std.specs.List.{range_with_len, flat_map}
use Rattle.std.proofs.lemmas.Bool.{cond_both}
use Rattle.std.proofs.lemmas.List.{append-nil, take_more}
use Rattle.std.proofs.lemmas.List.FromFn.{map-range_with_len_more}
use Rattle.std.proofs.lemmas.List.Folds.{flat_map-map}
use Rattle.std.proofs.lemmas.List.Sums.{sum_by_push}
use Rattle.std.proofs.lemmas.Grind.{flat_map-append}
use Rattle.orders.specs.Sorting.{put_in, put_in_all, sorted}

module _ {X : Type 0} (f : ℕ → List X) where
  -- what the first n numbers give
  abbrev pub fronts : ℕ → List X
  fronts n = flat_map f (range_with_len 0 n)

  -- one number more
  pub fronts_more : (n : ℕ) → fronts (n + 1) ≡ fronts n ++ f n
  fronts_more n =
      sym (flat_map-map f (λ (x : ℕ). x) (range_with_len 0 (n + 1))) ∙ ap (flat_map f) (map-range_with_len_more (λ (x : ℕ). x) 0 n n (zero-add n))
      ∙ flat_map-append f _ (n ∷ []) ∙ ap₂ ◌++◌ (flat_map-map f (λ (x : ℕ). x) (range_with_len 0 n)) (append-nil (f n))

  pub length-fronts_more : (n : ℕ) → length (fronts (n + 1)) ≡ length (fronts n) + length (f n)
  length-fronts_more n = ap length (fronts_more n) ∙ length-append (fronts n) (f n)

  fronts_up : (i k : ℕ) → length (fronts i) ≤ length (fronts (i + k))
  fronts_up i zero = let e : i + 0 ≡ i = omega arith in subst (λ m. length (fronts i) ≤ length (fronts m)) (sym e) (omega arith)
  fronts_up i (suc k) =
      let e : i + suc k ≡ i + k + 1 = omega arith in
      let h = fronts_up i k in
      let m = length-fronts_more (i + k) in
      subst (λ n. length (fronts i) ≤ length (fronts n)) (sym e) (omega arith)

  -- what a number gives is among what more numbers give
  pub fronts_within : (i n : ℕ) → i < n → length (fronts i) + length (f i) ≤ length (fronts n)
  fronts_within i n h =
      let e = length-fronts_more i in
      let u = fronts_up (i + 1) (n - (i + 1)) in
      let m : i + 1 + (n - (i + 1)) ≡ n = omega arith in
      subst (λ k. length (fronts i) + length (f i) ≤ length (fronts k)) m (omega arith)

  -- how much the first numbers give, by a list of as many
  pub length-fronts : {Y : Type 0} (w : Y → ℕ) (ys : List Y) (d : Y) → ((i : ℕ) → i < length ys → length (f i) ≡ w (get_or ys i d)) → (n : ℕ) → n ≤ length ys → length (fronts n) ≡ sum_by w (take n ys)
  length-fronts w ys d h zero l = refl
  length-fronts w ys d h (suc n) l =
      let e : suc n ≡ n + 1 = omega arith in
      let lt : n < length ys = omega arith in
      let r = length-fronts w ys d h n (omega arith) in
      let s = sum_by_push w (take n ys) (get_or ys n d) in
      subst (λ m. length (fronts m) ≡ sum_by w (take m ys)) (sym e)
      (length-fronts_more n ∙ ap₂ ◌+◌ r (h n lt) ∙ sym (ap (sum_by w) (take_more ys n d lt) ∙ s))

module _ {X : Type 0} (before : X → X → Bool) where
  length-put_in : (x : X) (ys : List X) → length (put_in before x ys) ≡ suc (length ys)
  length-put_in x [] = refl
  length-put_in x (y ∷ ys) = cond_both (before x y) (x ∷ y ∷ ys) (y ∷ put_in before x ys) (λ zs. length zs ≡ suc (suc (length ys))) (λ e. refl) (λ e. ap suc (length-put_in x ys))

  length-put_in_all : (ys xs : List X) → length (put_in_all before ys xs) ≡ length xs + length ys
  length-put_in_all ys [] = omega arith
  length-put_in_all ys (x ∷ xs) = let h = length-put_in_all (put_in before x ys) xs in let k = length-put_in x ys in omega arith

  -- a list in order is as long as before
  pub length-sorted : (xs : List X) → length (sorted before xs) ≡ length xs
  length-sorted xs = let h = length-put_in_all [] xs in omega arith

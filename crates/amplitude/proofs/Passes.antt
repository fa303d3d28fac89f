-- A pass over pairs of amplitudes, in place. Assumes nothing.
use Rattle.std.proofs.Common.{◌≡◌, ◌≢◌, ℕ, ◌+◌, ◌^◌, ◌<◌, ◌≤◌, Bool, true, false, not, cond, nat_lt, List, length, slice_index_or, slice_set, sym, refl, ap, ap₂, ◌∙◌, subst, arith, lt-ltb, le-ltb, ne_eqb, true≢false, get_or-set_same, get_or-set_other, length-set, drop, ◌-◌, length-drop, get_or-drop, ext_get_or, ◌⊎◌, inl, inr, ⊎_elim}
use Rattle.std.proofs.Math.Path.{fun_ext}
use Rattle.std.proofs.Math.Pow.{pow-lt}
use native.Mathlib.Decide.{dec_lt, ℕ_discrete}
use Rattle.std.proofs.lemmas.Nat.{xor_lt}
use Rattle.bits.specs.Bits.{bit}
use Rattle.matrices.specs.declared.Amplitude.{Amplitude}
use Rattle.matrices.specs.Numbers.{nought, plus, turned}
use Rattle.matrices.specs.Assignments.{differ, flip_if}
use Rattle.matrices.specs.Indices.{indices, flipped, flipped_twice, bit_same, bit_other}
use Rattle.matrices.specs.Gates.{Gate.plain, Gate.hadamard, Terms, Terms.one, Terms.two, terms, value}
use Rattle.matrices.proofs.Numbers.{turned_nought}
use Rattle.amplitude.specs.declared.pair.PairGate.{PairGate}
use Rattle.amplitude.specs.Sizes.{used, vector}
use Rattle.amplitude.specs.Pairs.{gate_of, first_of, applied_to, entry, is_on, Apart, low_index, DoneBelow}

-- an entry of what a gate does, by the two amplitudes of its pair
two_of : (v : ℕ → Amplitude) (w i : ℕ) (f h : Bool) → v (flip_if indices f w (flip_if indices h w i)) ≡ cond (differ f h) (v (flipped w i)) (v i)
two_of v w i true true = ap v (flipped_twice w i)
two_of v w i true false = refl
two_of v w i false true = refl
two_of v w i false false = refl

pub entry_applied : (g : PairGate) (w : ℕ) (v : ℕ → Amplitude) (i : ℕ) → applied_to g w v i ≡ entry g (is_on g i) (bit i w) (v i) (v (flipped w i))
entry_applied (PairGate.Plain r) w v i = ap (value (terms (plain r) (bit i w) (bit i w))) (fun_ext (λ f. fun_ext (λ h. two_of v w i f h)))
entry_applied PairGate.H w v i = ap (value (terms hadamard (bit i w) (bit i w))) (fun_ext (λ f. fun_ext (λ h. two_of v w i f h)))
entry_applied (PairGate.Flip c) w v i = go (bit i c)
  where
    go : (b : Bool) → v (flip_if indices b w i) ≡ cond b (v (flipped w i)) (v i)
    go true = refl
    go false = refl

-- the other index of a pair is an index, and has the control's bit
pub flipped_below : (n w i : ℕ) → w < n → i < 2 ^ n → flipped w i < 2 ^ n
flipped_below n w i h k = xor_lt n i (2 ^ w) k (pow-lt h)

flipped_past : (n w i : ℕ) → w < n → 2 ^ n ≤ i → 2 ^ n ≤ flipped w i
flipped_past n w i h p = go (dec_lt (flipped w i) (2 ^ n))
  where
    go : Dec (flipped w i < 2 ^ n) → 2 ^ n ≤ flipped w i
    go (yes q) = let r = flipped_below n w (flipped w i) h q in let e = flipped_twice w i in absurd (omega arith)
    go (no q) = omega arith

same_on : (g : PairGate) (w i : ℕ) → Apart g w → is_on g (flipped w i) ≡ is_on g i
same_on (PairGate.Plain r) w i a = refl
same_on PairGate.H w i a = refl
same_on (PairGate.Flip c) w i a = bit_other c w i a

-- the lower index of a pair
low_is_low : (w k : ℕ) → bit (low_index w k) w ≡ false
low_is_low w k = go (bit k w) refl
  where
    go : (b : Bool) → bit k w ≡ b → bit (cond b (flipped w k) k) w ≡ false
    go true e = bit_same w k ∙ ap not e
    go false e = e

low_of : (w i : ℕ) → bit i w ≡ false → low_index w i ≡ i
low_of w i e = ap (λ (b : Bool). cond b (flipped w i) i) e

low_of_other : (w i : ℕ) → bit i w ≡ false → low_index w (flipped w i) ≡ i
low_of_other w i e = ap (λ (b : Bool). cond b (flipped w (flipped w i)) (flipped w i)) (bit_same w i ∙ ap not e) ∙ flipped_twice w i

pair_of : (w k i : ℕ) → low_index w k ≡ i → (k ≡ i) ⊎ (k ≡ flipped w i)
pair_of w k i = go (bit k w)
  where
    go : (b : Bool) → cond b (flipped w k) k ≡ i → (k ≡ i) ⊎ (k ≡ flipped w i)
    go true e = inr (sym (flipped_twice w k) ∙ ap (flipped w) e)
    go false e = inl e

low_below : (n w k : ℕ) → w < n → k < 2 ^ n → low_index w k < 2 ^ n
low_below n w k h p = go (bit k w)
  where
    go : (b : Bool) → cond b (flipped w k) k < 2 ^ n
    go true = flipped_below n w k h p
    go false = p

low_past : (n w k : ℕ) → w < n → 2 ^ n ≤ k → 2 ^ n ≤ low_index w k
low_past n w k h p = go (bit k w)
  where
    go : (b : Bool) → 2 ^ n ≤ cond b (flipped w k) k
    go true = flipped_past n w k h p
    go false = p

lt_more : (m i : ℕ) → m ≢ i → nat_lt m (i + 1) ≡ nat_lt m i
lt_more m i ne = go (dec_lt m i)
  where
    go : Dec (m < i) → nat_lt m (i + 1) ≡ nat_lt m i
    go (yes h) = lt-ltb m (i + 1) (omega arith) ∙ sym (lt-ltb m i h)
    go (no h) = le-ltb m (i + 1) (omega arith) ∙ sym (le-ltb m i (omega arith))

pub used_some : (n : ℕ) → 0 < n → used n ≡ 2 ^ n
used_some n h = ap (λ (b : Bool). cond b 0 (2 ^ n)) (ne_eqb n 0 (λ e. omega (arith, h)))

pub vector_at : (n : ℕ) (xs : List Amplitude) (i : ℕ) → 0 < n → i < 2 ^ n → vector n xs i ≡ slice_index_or xs i nought
vector_at n xs i p h = ap (λ (b : Bool). cond b (slice_index_or xs i nought) nought) (lt-ltb i (used n) (let e = used_some n p in omega arith))

pub vector_past : (n : ℕ) (xs : List Amplitude) (i : ℕ) → used n ≤ i → vector n xs i ≡ nought
vector_past n xs i h = ap (λ (b : Bool). cond b (slice_index_or xs i nought) nought) (le-ltb i (used n) h)

-- nothing is done yet
pub done_at_first : (g : PairGate) (n w : ℕ) (xs : List Amplitude) → DoneBelow g n w 0 xs xs
done_at_first g n w xs k = sym (ap (λ (b : Bool). cond b (applied_to g w (vector n xs) k) (slice_index_or xs k nought)) (le-ltb (low_index w k) 0 (omega arith)))

-- an index where the wire is 1 is no pair's lower
pub done_over : (g : PairGate) (n w i : ℕ) (xs ys : List Amplitude) → bit i w ≡ true → DoneBelow g n w i xs ys → DoneBelow g n w (i + 1) xs ys
done_over g n w i xs ys e d k =
    d k ∙ sym (ap (λ (b : Bool). cond b (applied_to g w (vector n xs) k) (slice_index_or xs k nought)) (lt_more (low_index w k) i (λ q. true≢false (sym e ∙ sym (ap (λ (m : ℕ). bit m w) q) ∙ low_is_low w k))))

module _ (g : PairGate) (n w i : ℕ) (xs ys : List Amplitude) (below : w < n) (apart : Apart g w) (here : i < 2 ^ n) (low : bit i w ≡ false) (d : DoneBelow g n w i xs ys) where
  abbrev v : ℕ → Amplitude
  v = vector n xs

  some : 0 < n
  some = omega (arith, below)

  pub low_old : slice_index_or ys i nought ≡ v i
  low_old = d i ∙ ap (λ (b : Bool). cond b (applied_to g w v i) (slice_index_or xs i nought)) (ap (λ (m : ℕ). nat_lt m i) (low_of w i low) ∙ le-ltb i i (omega arith)) ∙ sym (vector_at n xs i some here)

  pub high_old : slice_index_or ys (flipped w i) nought ≡ v (flipped w i)
  high_old = d (flipped w i) ∙ ap (λ (b : Bool). cond b (applied_to g w v (flipped w i)) (slice_index_or xs (flipped w i) nought)) (ap (λ (m : ℕ). nat_lt m i) (low_of_other w i low) ∙ le-ltb i i (omega arith)) ∙ sym (vector_at n xs (flipped w i) some (flipped_below n w i below here))

  abbrev pub low_new : Amplitude
  low_new = entry g (is_on g i) false (slice_index_or ys i nought) (slice_index_or ys (flipped w i) nought)

  abbrev pub high_new : Amplitude
  high_new = entry g (is_on g i) true (slice_index_or ys (flipped w i) nought) (slice_index_or ys i nought)

  low_is : low_new ≡ applied_to g w v i
  low_is = ap₂ (entry g (is_on g i) false) low_old high_old ∙ ap (λ (b : Bool). entry g (is_on g i) b (v i) (v (flipped w i))) (sym low) ∙ sym (entry_applied g w v i)

  high_is : high_new ≡ applied_to g w v (flipped w i)
  high_is =
      ap₂ (entry g (is_on g i) true) high_old low_old
      ∙ ap₂ (λ (o b : Bool). entry g o b (v (flipped w i)) (v i)) (sym (same_on g w i apart)) (sym (bit_same w i ∙ ap not low))
      ∙ ap (entry g (is_on g (flipped w i)) (bit (flipped w i) w) (v (flipped w i))) (ap v (sym (flipped_twice w i)))
      ∙ sym (entry_applied g w v (flipped w i))

  other : flipped w i ≢ i
  other e = true≢false (sym (bit_same w i ∙ ap not low) ∙ ap (λ (m : ℕ). bit m w) e ∙ low)

  new_at : (m : ℕ) → low_index w m ≡ i → cond (nat_lt (low_index w m) (i + 1)) (applied_to g w v m) (slice_index_or xs m nought) ≡ applied_to g w v m
  new_at m e = ap (λ (b : Bool). cond b (applied_to g w v m) (slice_index_or xs m nought)) (lt-ltb (low_index w m) (i + 1) (omega arith))

  -- one pair more
  pub done_more : 2 ^ n ≤ length ys → DoneBelow g n w (i + 1) xs (slice_set (slice_set ys i low_new) (flipped w i) high_new)
  done_more long k = go (ℕ_discrete k (flipped w i)) (ℕ_discrete k i)
    where
      go : Dec (k ≡ flipped w i) → Dec (k ≡ i)
          → slice_index_or (slice_set (slice_set ys i low_new) (flipped w i) high_new) k nought ≡ cond (nat_lt (low_index w k) (i + 1)) (applied_to g w v k) (slice_index_or xs k nought)
      go (yes e) q =
          let r = flipped_below n w i below here in
          let fits : flipped w i < length (slice_set ys i low_new) = simp length-set (omega arith) in
          subst (λ (m : ℕ). slice_index_or (slice_set (slice_set ys i low_new) (flipped w i) high_new) m nought ≡ cond (nat_lt (low_index w m) (i + 1)) (applied_to g w v m) (slice_index_or xs m nought)) (sym e)
          (get_or-set_same (slice_set ys i low_new) (flipped w i) high_new nought fits ∙ high_is ∙ sym (new_at (flipped w i) (low_of_other w i low)))
      go (no f) (yes e) =
          let fits : i < length ys = omega arith in
          subst (λ (m : ℕ). slice_index_or (slice_set (slice_set ys i low_new) (flipped w i) high_new) m nought ≡ cond (nat_lt (low_index w m) (i + 1)) (applied_to g w v m) (slice_index_or xs m nought)) (sym e)
          (get_or-set_other (slice_set ys i low_new) (flipped w i) i high_new nought (λ q. other (sym q)) ∙ get_or-set_same ys i low_new nought fits ∙ low_is ∙ sym (new_at i (low_of w i low)))
      go (no f) (no e) =
          let far : low_index w k ≢ i = λ q. ⊎_elim e f (pair_of w k i q) in
          get_or-set_other (slice_set ys i low_new) (flipped w i) k high_new nought f ∙ get_or-set_other ys i k low_new nought e ∙ d k
          ∙ sym (ap (λ (b : Bool). cond b (applied_to g w v k) (slice_index_or xs k nought)) (lt_more (low_index w k) i far))

-- what has no amplitudes past the last index has none there after a gate
value_nought : (t : Terms) (V : Bool → Bool → Amplitude) → ((f g : Bool) → V f g ≡ nought) → value t V ≡ nought
value_nought (one n f g) V h = ap (turned n) (h f g) ∙ turned_nought n
value_nought (two n f g m f' g') V h = ap₂ (λ (x y : Amplitude). plus (turned n x) (turned m y)) (h f g) (h f' g') ∙ ap₂ plus (turned_nought n) (turned_nought m)

move_past : (f : Bool) (n a i : ℕ) → a < n → 2 ^ n ≤ i → 2 ^ n ≤ flip_if indices f a i
move_past true n a i h p = flipped_past n a i h p
move_past false n a i h p = p

applied_past : (g : PairGate) (n w : ℕ) → w < n → first_of g w < n → (v : ℕ → Amplitude) → ((j : ℕ) → 2 ^ n ≤ j → v j ≡ nought) → (i : ℕ) → 2 ^ n ≤ i → applied_to g w v i ≡ nought
applied_past g n w h k v z i p = value_nought (terms (gate_of g) (bit i (first_of g w)) (bit i w)) (λ f f'. v (flip_if indices f (first_of g w) (flip_if indices f' w i)))
    (λ f f'. z _ (move_past f n (first_of g w) (flip_if indices f' w i) k (move_past f' n w i h p)))

-- all pairs are done
pub done_all : (g : PairGate) (n w : ℕ) (xs ys : List Amplitude) → w < n → first_of g w < n → DoneBelow g n w (2 ^ n) xs ys → vector n ys ≡ applied_to g w (vector n xs)
done_all g n w xs ys h k d = fun_ext (λ i. at i (dec_lt i (2 ^ n)))
  where
    some : 0 < n
    some = omega (arith, h)

    size : used n ≡ 2 ^ n
    size = used_some n some

    at : (i : ℕ) → Dec (i < 2 ^ n) → vector n ys i ≡ applied_to g w (vector n xs) i
    at i (yes p) = vector_at n ys i some p ∙ d i ∙ ap (λ (b : Bool). cond b (applied_to g w (vector n xs) i) (slice_index_or xs i nought)) (lt-ltb (low_index w i) (2 ^ n) (low_below n w i h p))
    at i (no p) =
        let far : 2 ^ n ≤ i = omega arith in
        vector_past n ys i (omega (arith, size)) ∙ sym (applied_past g n w h k (vector n xs) (λ j q. vector_past n xs j (omega (arith, size))) i far)

-- and the places past the last index are as they were
pub done_rest : (g : PairGate) (n w : ℕ) (xs ys : List Amplitude) → w < n → length ys ≡ length xs → DoneBelow g n w (2 ^ n) xs ys → drop (2 ^ n) ys ≡ drop (2 ^ n) xs
done_rest g n w xs ys h e d = ext_get_or nought (drop (2 ^ n) ys) (drop (2 ^ n) xs) (simp length-drop (ap (λ (m : ℕ). m - 2 ^ n) e)) (λ i p. get_or-drop (2 ^ n) ys i nought ∙ at (2 ^ n + i) (omega arith) ∙ sym (get_or-drop (2 ^ n) xs i nought))
  where
    at : (k : ℕ) → 2 ^ n ≤ k → slice_index_or ys k nought ≡ slice_index_or xs k nought
    at k p = d k ∙ ap (λ (b : Bool). cond b (applied_to g w (vector n xs) k) (slice_index_or xs k nought)) (le-ltb (low_index w k) (2 ^ n) (low_past n w k h p))

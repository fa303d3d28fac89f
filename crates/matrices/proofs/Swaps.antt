-- Moves of assignments: swaps by three controlled flips. Assumes nothing.
use Rattle.std.specs.Prelude.{◌≡◌, ℕ, Bool, true, false, cond, ◌≢◌, refl}
use Rattle.std.proofs.Common.{sym, ap, ◌∙◌, eq-eqb, ne_eqb}
use Rattle.std.proofs.Math.Decide.{ℕ_discrete}
use Rattle.circuit.specs.Actions.{exchanged}
use Rattle.matrices.specs.Assignments.{Assignments, differ, flip_if, controlled}

by_dec : {P : Type 0} → Dec P → {Q : Type 0} → (P → Q) → ((P → ⊥) → Q) → Q
by_dec (yes p) f g = f p
by_dec (no p) f g = g p

pub by_eq : (a b : ℕ) {Q : Type 0} → (a ≡ b → Q) → (a ≢ b → Q) → Q
by_eq a b f g = by_dec (ℕ_discrete a b) f g

pub exch_left : (a b : ℕ) → exchanged a b a ≡ b
exch_left a b = rw (eq-eqb a a refl)

pub exch_right : (a b : ℕ) → a ≢ b → exchanged a b b ≡ a
exch_right a b ne = rw (ne_eqb b a (λ e. ne (sym e)), eq-eqb b b refl)

pub exch_other : (a b c : ℕ) → c ≢ a → c ≢ b → exchanged a b c ≡ c
exch_other a b c na nb = rw (ne_eqb c a na, ne_eqb c b nb)

module _ (W : Assignments) where
  abbrev pub swap3 : ℕ → ℕ → W.At → W.At
  swap3 a b i = controlled W a b (controlled W b a (controlled W a b i))

  -- the same at once
  abbrev pub swap1 : ℕ → ℕ → W.At → W.At
  swap1 a b i = cond (differ (W.bit a i) (W.bit b i)) (W.flip a (W.flip b i)) i

  pub swap_is : (a b : ℕ) → a ≢ b → (i : W.At) → swap3 a b i ≡ swap1 a b i
  swap_is a b ne i = go (W.bit a i) (W.bit b i) refl refl
    where
      en : b ≢ a
      en e = ne (sym e)

      go : (x y : Bool) → W.bit a i ≡ x → W.bit b i ≡ y → swap3 a b i ≡ swap1 a b i
      go false false p q = simp (p, q)
      go false true p q = simp (p, q, W.bit_same a i) (W.flips_commute b a i)
      go true false p q = simp (p, q, W.bit_same, W.bit_other)
      go true true p q = simp (p, q, W.bit_same, W.bit_other) (W.flip_twice b i)

  -- after a swap a wire has the bit of the other
  pub bit_swap : (a b : ℕ) → a ≢ b → (c : ℕ) (i : W.At) → W.bit c (swap3 a b i) ≡ W.bit (exchanged a b c) i
  bit_swap a b ne c i =
      rw (swap_is a b ne i)
      (by_eq c a
      (λ ca. rw (ca, exch_left a b) (left (W.bit a i) (W.bit b i) refl refl))
      (λ na. by_eq c b
      (λ cb. rw (cb, exch_right a b ne) (right (W.bit a i) (W.bit b i) refl refl))
      (λ nb. rw (exch_other a b c na nb) (other na nb (differ (W.bit a i) (W.bit b i))))))
    where
      en : b ≢ a
      en e = ne (sym e)

      keep_b : (j : W.At) → W.bit b (W.flip a j) ≡ W.bit b j
      keep_b j = W.bit_other b a j en

      left : (x y : Bool) → W.bit a i ≡ x → W.bit b i ≡ y → W.bit a (swap1 a b i) ≡ W.bit b i
      left false false p q = simp (p, q)
      left false true p q = simp (p, q, W.bit_same, W.bit_other)
      left true false p q = simp (p, q, W.bit_same, W.bit_other)
      left true true p q = simp (p, q)

      right : (x y : Bool) → W.bit a i ≡ x → W.bit b i ≡ y → W.bit b (swap1 a b i) ≡ W.bit a i
      right false false p q = simp (p, q)
      right false true p q = simp (p, q, W.bit_same, keep_b)
      right true false p q = simp (p, q, W.bit_same, keep_b)
      right true true p q = simp (p, q)

      other : c ≢ a → c ≢ b → (d : Bool) → W.bit c (cond d (W.flip a (W.flip b i)) i) ≡ W.bit c i
      other na nb false = refl
      other na nb true = W.bit_other c a _ na ∙ W.bit_other c b i nb

  pub flip_swap : (a b : ℕ) → a ≢ b → (c : ℕ) (i : W.At) → swap3 a b (W.flip c i) ≡ W.flip (exchanged a b c) (swap3 a b i)
  flip_swap a b ne c i =
      rw (swap_is a b ne i, swap_is a b ne (W.flip c i))
      (by_eq c a
      (λ ca. rw (ca, exch_left a b) (left (W.bit a i) (W.bit b i) refl refl))
      (λ na. by_eq c b
      (λ cb. rw (cb, exch_right a b ne) (right (W.bit a i) (W.bit b i) refl refl))
      (λ nb. rw (exch_other a b c na nb, W.bit_other a c i (λ e. na (sym e)), W.bit_other b c i (λ e. nb (sym e))) (other (differ (W.bit a i) (W.bit b i))))))
    where
      en : b ≢ a
      en e = ne (sym e)

      keep_b : (j : W.At) → W.bit b (W.flip a j) ≡ W.bit b j
      keep_b j = W.bit_other b a j en

      around : (d e : ℕ) → W.flip d (W.flip e (W.flip d i)) ≡ W.flip e i
      around d e = ap (W.flip d) (W.flips_commute e d i) ∙ W.flip_twice d (W.flip e i)

      left : (x y : Bool) → W.bit a i ≡ x → W.bit b i ≡ y → swap1 a b (W.flip a i) ≡ W.flip b (swap1 a b i)
      left false false p q = simp (p, q, W.bit_same, keep_b) (around a b)
      left false true p q = simp (p, q, W.bit_same, keep_b) (sym (around b a))
      left true false p q = simp (p, q, W.bit_same, keep_b) (sym (around b a))
      left true true p q = simp (p, q, W.bit_same, keep_b) (around a b)

      right : (x y : Bool) → W.bit a i ≡ x → W.bit b i ≡ y → swap1 a b (W.flip b i) ≡ W.flip a (swap1 a b i)
      right false false p q = simp (p, q, W.bit_same, W.bit_other) (ap (W.flip a) (W.flip_twice b i))
      right false true p q = simp (p, q, W.bit_same, W.bit_other) (sym (W.flip_twice a (W.flip b i)))
      right true false p q = simp (p, q, W.bit_same, W.bit_other) (sym (W.flip_twice a (W.flip b i)))
      right true true p q = simp (p, q, W.bit_same, W.bit_other) (ap (W.flip a) (W.flip_twice b i))

      other : (d : Bool) → cond d (W.flip a (W.flip b (W.flip c i))) (W.flip c i) ≡ W.flip c (cond d (W.flip a (W.flip b i)) i)
      other false = refl
      other true = ap (W.flip a) (W.flips_commute b c i) ∙ W.flips_commute a c (W.flip b i)

  pub swap_swap : (a b : ℕ) → a ≢ b → (i : W.At) → swap3 a b (swap3 a b i) ≡ i
  swap_swap a b ne i = swap_is a b ne (swap3 a b i) ∙ ap (λ (s : Bool). cond s (W.flip a (W.flip b (swap3 a b i))) (swap3 a b i)) bits ∙ rw (swap_is a b ne i) (back (differ (W.bit a i) (W.bit b i)))
    where
      turned : (x y : Bool) → differ y x ≡ differ x y
      turned true true = refl
      turned true false = refl
      turned false true = refl
      turned false false = refl

      bits : differ (W.bit a (swap3 a b i)) (W.bit b (swap3 a b i)) ≡ differ (W.bit a i) (W.bit b i)
      bits = rw (bit_swap a b ne a i, bit_swap a b ne b i, exch_left a b, exch_right a b ne) (turned (W.bit a i) (W.bit b i))

      back : (d : Bool) → cond d (W.flip a (W.flip b (cond d (W.flip a (W.flip b i)) i))) (cond d (W.flip a (W.flip b i)) i) ≡ i
      back false = refl
      back true = ap (λ (j : W.At). W.flip a (W.flip b j)) (W.flips_commute a b i) ∙ ap (W.flip a) (W.flip_twice b (W.flip a i)) ∙ W.flip_twice a i

  pub move_swap : (f : Bool) (a b : ℕ) → a ≢ b → (c : ℕ) (i : W.At) → swap3 a b (flip_if W f c i) ≡ flip_if W f (exchanged a b c) (swap3 a b i)
  move_swap true a b ne c i = flip_swap a b ne c i
  move_swap false a b ne c i = refl

  pub bit_move : (f : Bool) (a b : ℕ) (i : W.At) → a ≢ b → W.bit a (flip_if W f b i) ≡ W.bit a i
  bit_move true a b i ne = W.bit_other a b i ne
  bit_move false a b i ne = refl

  pub move_comm : (f g : Bool) (a b : ℕ) (i : W.At) → flip_if W f a (flip_if W g b i) ≡ flip_if W g b (flip_if W f a i)
  move_comm true true a b i = W.flips_commute a b i
  move_comm true false a b i = refl
  move_comm false g a b i = refl

  -- what two moves of other wires keep, and two pairs of moves in both orders
  pub bit_moves : (f g : Bool) (a c d : ℕ) (i : W.At) → a ≢ c → a ≢ d → W.bit a (flip_if W f c (flip_if W g d i)) ≡ W.bit a i
  bit_moves f g a c d i ac ad = bit_move f a c (flip_if W g d i) ac ∙ bit_move g a d i ad

  pub moves_comm : (f g h k : Bool) (a b c d : ℕ) (i : W.At) → flip_if W f a (flip_if W g b (flip_if W h c (flip_if W k d i))) ≡ flip_if W h c (flip_if W k d (flip_if W f a (flip_if W g b i)))
  moves_comm f g h k a b c d i =
      ap (flip_if W f a) (move_comm g h b c (flip_if W k d i) ∙ ap (flip_if W h c) (move_comm g k b d i)) ∙ move_comm f h a c (flip_if W k d (flip_if W g b i)) ∙ ap (flip_if W h c) (move_comm f k a d (flip_if W g b i))

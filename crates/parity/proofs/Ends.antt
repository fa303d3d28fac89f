-- The bits of a parity register's wires for each start, and how actions change them. Assumes nothing.
use Rattle.std.proofs.Common.{◌≡◌, ℕ, zero, suc, ◌+◌, ◌%◌, ◌^◌, ◌<◌, ◌≤◌, Bool, true, false, not, cond, ◌&&◌, ◌≢◌, eqb, ltb, bit_xor, refl, sym, ap, ap₂, ◌∙◌, inl, inr, arith}
use Rattle.std.specs.Int.{bit_at}
use Rattle.std.proofs.lemmas.Bool.{cases_lt, lt-ltb, le-ltb}
use Rattle.std.proofs.lemmas.Bool.Decides.{nat_tests}
use Rattle.std.proofs.lemmas.Nat.Bits.{bit_at-lt, bit_at_xor, bit_at-pow_same, bit_at-pow_other, same_from_bits}
use Rattle.bits.specs.Bits.{bit}
use Rattle.bits.proofs.Bits.{bit_past}
use Rattle.matrices.specs.Assignments.{differ, flip_if}
use Rattle.matrices.specs.Indices.{indices, bit_same}
use Rattle.matrices.proofs.Swaps.{by_eq, bit_move}
use Rattle.parity.specs.Parities.{mark_of}
use Rattle.parity.specs.Vectors.{parity_of, word_bit, number_of}

-- exclusive or of single digits
digits_differ : (a b : ℕ) → a < 2 → b < 2 → eqb ((a + b) % 2) 1 ≡ differ (eqb a 1) (eqb b 1)
digits_differ zero zero h k = refl
digits_differ zero (suc zero) h k = refl
digits_differ (suc zero) zero h k = refl
digits_differ (suc zero) (suc zero) h k = refl
digits_differ (suc (suc a)) b h k = absurd (omega arith)
digits_differ zero (suc (suc b)) h k = absurd (omega arith)
digits_differ (suc zero) (suc (suc b)) h k = absurd (omega arith)

pub bit_xored : (a b w : ℕ) → bit (bit_xor a b) w ≡ differ (bit a w) (bit b w)
bit_xored a b w = ap (λ (n : ℕ). eqb n 1) (bit_at_xor a b w) ∙ digits_differ (bit_at a w) (bit_at b w) (bit_at-lt a w) (bit_at-lt b w)

differ_and : (x y z : Bool) → (differ x y && z) ≡ differ (x && z) (y && z)
differ_and true true true = refl
differ_and true true false = refl
differ_and true false true = refl
differ_and true false false = refl
differ_and false true true = refl
differ_and false true false = refl
differ_and false false true = refl
differ_and false false false = refl

differ_four : (a b p q : Bool) → differ (differ a b) (differ p q) ≡ differ (differ a p) (differ b q)
differ_four true true true true = refl
differ_four true true true false = refl
differ_four true true false true = refl
differ_four true true false false = refl
differ_four true false true true = refl
differ_four true false true false = refl
differ_four true false false true = refl
differ_four true false false false = refl
differ_four false true true true = refl
differ_four false true true false = refl
differ_four false true false true = refl
differ_four false true false false = refl
differ_four false false true true = refl
differ_four false false true false = refl
differ_four false false false true = refl
differ_four false false false false = refl

parity_xored : (a b start n : ℕ) → parity_of (λ v. bit (bit_xor a b) v && bit start v) n ≡ differ (parity_of (λ v. bit a v && bit start v) n) (parity_of (λ v. bit b v && bit start v) n)
parity_xored a b start zero = refl
parity_xored a b start (suc n) =
    ap₂ differ (ap (λ x. x && bit start n) (bit_xored a b n) ∙ differ_and (bit a n) (bit b n) (bit start n)) (parity_xored a b start n)
    ∙ differ_four (bit a n && bit start n) (bit b n && bit start n) (parity_of (λ v. bit a v && bit start v) n) (parity_of (λ v. bit b v && bit start v) n)

-- the exclusive or of two words has that of their bits
pub word_bit_xored : (n start a b : ℕ) → word_bit n start (bit_xor a b) ≡ differ (word_bit n start a) (word_bit n start b)
word_bit_xored n start a b =
    ap₂ differ (bit_xored a b 32) (parity_xored a b start n)
    ∙ differ_four (bit a 32) (bit b 32) (parity_of (λ v. bit a v && bit start v) n) (parity_of (λ v. bit b v && bit start v) n)

pub power_bit : (k : ℕ) → bit (2 ^ k) k ≡ true
power_bit k = ap (λ (n : ℕ). eqb n 1) (bit_at-pow_same k)

pub power_other : (k w : ℕ) → w ≢ k → bit (2 ^ k) w ≡ false
power_other k w ne = ap (λ (n : ℕ). eqb n 1) (bit_at-pow_other k w ne)

-- a power of two has no bit below, and one bit from its place on
parity_under : (k start n : ℕ) → n ≤ k → parity_of (λ v. bit (2 ^ k) v && bit start v) n ≡ false
parity_under k start zero h = refl
parity_under k start (suc n) h =
    let ne : n ≢ k = λ e. omega arith in
    ap₂ (λ x y. differ (x && bit start n) y) (power_other k n ne) (parity_under k start n (omega arith))

differ_false : (x : Bool) → differ x false ≡ x
differ_false true = refl
differ_false false = refl

parity_power : (k start n : ℕ) → k < n → parity_of (λ v. bit (2 ^ k) v && bit start v) n ≡ bit start k
parity_power k start zero h = absurd (omega arith)
parity_power k start (suc n) h =
    by_eq k n
    (λ e. ap₂ (λ x y. differ (x && bit start n) y) (ap (λ m. bit (2 ^ m) n) e ∙ power_bit n) (parity_under k start n (omega arith)) ∙ differ_false (bit start n) ∙ ap (bit start) (sym e))
    (λ ne. ap₂ (λ x y. differ (x && bit start n) y) (power_other k n (λ e. ne (sym e))) (parity_power k start n (omega arith)) ∙ from_false (bit start k))
  where
    from_false : (x : Bool) → differ false x ≡ x
    from_false true = refl
    from_false false = refl

-- the mark alone is 1 for each start
pub mark_bit : (n start : ℕ) → n ≤ 32 → word_bit n start mark_of ≡ true
mark_bit n start h = ap₂ differ (power_bit 32) (parity_under 32 start n h)

-- the set of one starting wire has its bit
pub alone_bit : (n start k : ℕ) → n ≤ 32 → k < n → word_bit n start (2 ^ k) ≡ bit start k
alone_bit n start k h l =
    let ne : 32 ≢ k = λ e. omega arith in
    ap₂ differ (power_other k 32 ne) (parity_power k start n l) ∙ from_false (bit start k)
  where
    from_false : (x : Bool) → differ false x ≡ x
    from_false true = refl
    from_false false = refl

-- the bits of a number that was made of bits
bit_if : (x : Bool) (b i : ℕ) → bit (flip_if indices x b i) b ≡ differ x (bit i b)
bit_if true b i = bit_same b i ∙ go (bit i b)
  where
    go : (x : Bool) → not x ≡ differ true x
    go true = refl
    go false = refl
bit_if false b i = go (bit i b)
  where
    go : (x : Bool) → x ≡ differ false x
    go true = refl
    go false = refl

pub bit_made : (g : ℕ → Bool) (n w : ℕ) → bit (number_of g n) w ≡ cond (ltb w n) (g w) false
bit_made g zero w = bit_past 0 0 w (omega arith) (omega arith) ∙ sym (ap (λ t. cond t (g w) false) (le-ltb w 0 (omega arith)))
bit_made g (suc n) w =
    by_eq w n
    (λ e. ap (bit (flip_if indices (g n) n (number_of g n))) e ∙ bit_if (g n) n (number_of g n) ∙ ap (differ (g n)) (bit_made g n n ∙ at_end) ∙ differ_false (g n) ∙ here e)
    (λ ne. bit_move indices (g n) w n (number_of g n) ne ∙ bit_made g n w ∙ ap (λ t. cond t (g w) false) (further ne))
  where
    at_end : cond (ltb n n) (g n) false ≡ false
    at_end = ap (λ t. cond t (g n) false) (le-ltb n n (omega arith))

    here : w ≡ n → g n ≡ cond (ltb w (suc n)) (g w) false
    here e = sym (ap (λ t. cond t (g w) false) (lt-ltb w (suc n) (omega arith)) ∙ ap g e)

    further : w ≢ n → ltb w n ≡ ltb w (suc n)
    further ne = elim (cases_lt w n) [ inl h ↦ lt-ltb w n h ∙ sym (lt-ltb w (suc n) (omega arith)) | inr h ↦ le-ltb w n h ∙ sym (le-ltb w (suc n) (let m : suc n ≤ w = below h ne in m)) ]
      where
        below : n ≤ w → w ≢ n → suc n ≤ w
        below h ne = omega arith

-- two numbers with the same bits
bits_number : (x y : ℕ) → x < 2 → y < 2 → eqb x 1 ≡ eqb y 1 → x ≡ y
bits_number x y h k e = grind (arith, nat_tests)

pub same_bits : (a b : ℕ) → ((i : ℕ) → bit a i ≡ bit b i) → a ≡ b
same_bits a b f = same_from_bits a b (λ i. bits_number (bit_at a i) (bit_at b i) (bit_at-lt a i) (bit_at-lt b i) (f i))

-- a number made of bits of which one is flipped if x
pub number_flipped : (g h : ℕ → Bool) (x : Bool) (n a : ℕ) → a < n → h a ≡ differ x (g a) → ((w : ℕ) → w ≢ a → h w ≡ g w) → number_of h n ≡ flip_if indices x a (number_of g n)
number_flipped g h x n a l e f =
    same_bits (number_of h n) (flip_if indices x a (number_of g n)) (λ i. bit_made h n i ∙ by_eq i a
    (λ q. ap₂ (λ t v. cond t v false) (ap (λ j. ltb j n) q ∙ inside) (ap h q ∙ e) ∙ sym (ap (bit (flip_if indices x a (number_of g n))) q ∙ bit_if x a (number_of g n) ∙ ap (differ x) (bit_made g n a ∙ ap (λ t. cond t (g a) false) inside)))
    (λ ne. ap (λ v. cond (ltb i n) v false) (f i ne) ∙ sym (bit_move indices x i a (number_of g n) ne ∙ bit_made g n i)))
  where
    inside : ltb a n ≡ true
    inside = lt-ltb a n l

-- one more wire, in the loops that go over them
pub parity_more : (word start n : ℕ) → parity_of (λ v. bit word v && bit start v) (n + 1) ≡ cond (bit word n && bit start n) (not (parity_of (λ v. bit word v && bit start v) n)) (parity_of (λ v. bit word v && bit start v) n)
parity_more word start n = let e : n + 1 ≡ suc n = omega arith in ap (parity_of (λ v. bit word v && bit start v)) e ∙ go (bit word n && bit start n) (parity_of (λ v. bit word v && bit start v) n)
  where
    go : (x y : Bool) → differ x y ≡ cond x (not y) y
    go true true = refl
    go true false = refl
    go false true = refl
    go false false = refl

pub number_more : (g : ℕ → Bool) (n : ℕ) → number_of g (n + 1) ≡ cond (g n) (bit_xor (number_of g n) (2 ^ n)) (number_of g n)
number_more g n = let e : n + 1 ≡ suc n = omega arith in ap (number_of g) e

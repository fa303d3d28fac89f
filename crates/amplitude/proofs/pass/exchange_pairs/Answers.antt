use Rattle.std.proofs.Common.{◌≡◌, ℕ, ◌<◌, ◌≤◌, ◌^◌, ◌%◌, ◌*◌, ◌+◌, true, false, length, sym, ◌∙◌, subst, arith}
use Rattle.std.proofs.lemmas.Nat.{one_shl}
use Rattle.bits.specs.Bits.{bit}
use Rattle.amplitude.specs.declared.pair.PairGate.{PairGate}
use Rattle.amplitude.specs.Pairs.{DoneBelow}
use Rattle.amplitude.proofs.Passes.{flipped_below, done_over, done_more, done_all, done_rest}
use Rattle.amplitude.proofs.pass.exchange_pairs.Goals as goal
use Rattle.amplitude.proofs.pass.exchange_pairs.Goals.{then-not-has_bit, else-not-has_bit}

below : (i n : ℕ) → n ≤ 10 → i < 1 * 2 ^ n % 2 ^ 64 → i < 2 ^ n
below i n h k = let e = one_shl n 64 (omega arith) in omega arith

at_end : (i n : ℕ) → n ≤ 10 → 1 * 2 ^ n % 2 ^ 64 ≤ i → i ≤ 1 * 2 ^ n % 2 ^ 64 → i ≡ 2 ^ n
at_end i n h k l = let e = one_shl n 64 (omega arith) in omega arith

pub exchange-requires-clause-within : goal.exchange-requires-clause-within
exchange-requires-clause-within c =
    let h = below c.loop-i.i c.args.wires c.requires.few c.loop-i-test.true in
    let k = flipped_below c.args.wires c.args.wire c.loop-i.i c.requires.on_wires.0 h in
    (omega (arith, c.loop-i.invariant.long, c.requires.room), omega (arith, c.loop-i.invariant.long, c.requires.room))

pub loop-i-preserved : goal.loop-i-preserved
loop-i-preserved c =
    let h = below c.loop-i.i c.args.wires c.requires.few c.loop-i-test.true in
    let long : 2 ^ c.args.wires ≤ length c.loop-i.places = omega (arith, c.loop-i.invariant.long, c.requires.room) in
    elim c.if-not-has_bit.branch [
      | then-not-has_bit w ↦
          let low : bit c.loop-i.i c.args.wire ≡ false = sym c.has_bit.ensures ∙ w.if-not-has_bit.true in
          let more = done_more (PairGate.Flip c.args.control) c.args.wires c.args.wire c.loop-i.i c.args.places.now c.loop-i.places c.requires.on_wires.0 c.requires.apart h low c.loop-i.invariant.so_far long in
          record {
            so_far = subst (DoneBelow (PairGate.Flip c.args.control) c.args.wires c.args.wire (c.loop-i.i + 1) c.args.places.now) (sym (w.places-is ∙ w.exchange.ensures)) more;
            long = c.if-not-has_bit.auto.places ∙ c.loop-i.invariant.long;
          }
      | else-not-has_bit w ↦
          let high : bit c.loop-i.i c.args.wire ≡ true = sym c.has_bit.ensures ∙ w.if-not-has_bit.false in
          let over = done_over (PairGate.Flip c.args.control) c.args.wires c.args.wire c.loop-i.i c.args.places.now c.loop-i.places high c.loop-i.invariant.so_far in
          record {
            so_far = subst (DoneBelow (PairGate.Flip c.args.control) c.args.wires c.args.wire (c.loop-i.i + 1) c.args.places.now) (sym w.places-is) over;
            long = c.if-not-has_bit.auto.places ∙ c.loop-i.invariant.long;
          }
    ]

pub returns-clause-acted : goal.returns-clause-acted
returns-clause-acted c =
    let e = at_end c.loop-i.i c.args.wires c.requires.few c.loop-i-test.false c.loop-i.auto.i-end in
    done_all (PairGate.Flip c.args.control) c.args.wires c.args.wire c.args.places.now c.loop-i.places c.requires.on_wires.0 c.requires.on_wires.1
    (subst (λ (i : ℕ). DoneBelow (PairGate.Flip c.args.control) c.args.wires c.args.wire i c.args.places.now c.loop-i.places) e c.loop-i.invariant.so_far)

pub returns-clause-rest : goal.returns-clause-rest
returns-clause-rest c =
    let e = at_end c.loop-i.i c.args.wires c.requires.few c.loop-i-test.false c.loop-i.auto.i-end in
    done_rest (PairGate.Flip c.args.control) c.args.wires c.args.wire c.args.places.now c.loop-i.places c.requires.on_wires.0 c.loop-i.invariant.long
    (subst (λ (i : ℕ). DoneBelow (PairGate.Flip c.args.control) c.args.wires c.args.wire i c.args.places.now c.loop-i.places) e c.loop-i.invariant.so_far)

use Rattle.std.proofs.Common.{◌∙◌, sym, subst, arith}
use Rattle.std.proofs.iter.runs.Made.{run_of_turn, run_of_exit}
use Rattle.std.specs.List.{flat_map}
use Rattle.cnot.specs.Links.{times_of, links_of}
use Rattle.cnot.specs.Steps.{swap_over, Laid}
use Rattle.cnot.proofs.Swaps.{length_swaps, lasting_swaps, length_links_of, swaps_more, total_of_few}
use Rattle.cnot.proofs.Laying.{laid_more}
use Rattle.cnot.proofs.write.Writer.swaps.Goals as goal

pub swap-requires : goal.swap-requires
swap-requires g c =
    let t = c.args.table.now in
    let es = c.loop-ends.yielded in
    let p = run_of_turn g.I.Iterator.next_gives c.into_iter-ends-iterator.result es c.loop-ends.ends-iterator c.loop-ends.yielded_by c.in-Some.ends c.next.new.self c.in-Some.ensures.steps in
    let room = c.requires.room p.0 p.0.seen (p.1 ∙ c.into_iter-ends-iterator.ensures.into_iter_gives) in
    let laid = c.loop-ends.invariant in
    let few = c.between.ensures.few in (
      omega (arith, room.0, p.2.1, laid.at, laid.places, length_swaps (links_of (times_of t) es), length_links_of (times_of t) es),
      omega (arith, room.1, p.2.1, laid.time, lasting_swaps (links_of (times_of t) es), total_of_few t es),
    )

pub loop-ends-preserved : goal.loop-ends-preserved
loop-ends-preserved g c =
    let time = times_of c.args.table.now in
    let swap = subst (λ l. Laid (swap_over l) c.loop-ends.self c.swap.new.self) c.between.ensures.value c.swap.ensures in
    subst (λ ss. Laid ss c.args.self.now c.swap.new.self) (sym (swaps_more time c.loop-ends.yielded c.in-Some.ends))
    (laid_more (flat_map swap_over (links_of time c.loop-ends.yielded)) _ _ _ _ c.loop-ends.invariant swap)

pub returns : goal.returns
returns g c =
    let p = run_of_exit g.I.Iterator.next_gives c.into_iter-ends-iterator.result c.loop-ends.yielded c.loop-ends.ends-iterator c.loop-ends.yielded_by c.next.new.self c.in-None.ensures.steps in (
      p.0,
      p.1 ∙ c.into_iter-ends-iterator.ensures.into_iter_gives,
      p.2,
      subst (λ es. Laid (flat_map swap_over (links_of (times_of c.args.table.now) es)) c.args.self.now c.loop-ends.self) (sym p.3.0) c.loop-ends.invariant,
    )

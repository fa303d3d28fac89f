use Rattle.std.proofs.Common.{◌^◌, ◌<◌, arith}
use Rattle.grid.specs.Members.{has}
use Rattle.schedule.proofs.Common.{bit_below, common_test}
use Rattle.schedule.proofs.overlap.have_common_cell.Goals as goal

pub returns : goal.returns
returns c =
    let one = c.args.one in
    let fits : one.bits < 2 ^ 64 = omega arith in
    common_test 64 (has one) (has c.args.other) c.meets.result (λ k e. bit_below 64 one.bits k fits e) c.meets.ensures

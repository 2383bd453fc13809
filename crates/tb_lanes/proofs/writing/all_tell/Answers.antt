use Rattle.std.proofs.Common.{arith}
use Rattle.tb_lanes.proofs.SinkTexts.{told}
use Rattle.tb_lanes.proofs.writing.all_tell.Goals as goal

pub returns : goal.returns
returns g c = λ yes. told c.args.lanes.now (λ n d below. c.loop-lane.invariant n d (omega (arith, below, c.loop-lane-test.false)))

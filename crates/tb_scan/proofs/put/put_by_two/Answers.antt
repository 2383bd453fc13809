use Rattle.std.proofs.Common.{◌+◌, ◌<◌, length, arith}
use Rattle.tb_base.specs.Records.{category_at}
use Rattle.tb_base.specs.Parts.{part_at}
use Rattle.tb_scan.proofs.Scans.{put-more}
use Rattle.tb_scan.proofs.Used.{number-two}
use Rattle.tb_scan.proofs.put.put_by_two.Goals as goal

pub loop-one-preserved : goal.loop-one-preserved
loop-one-preserved c = λ p i below.
    let before : i < length c.loop-one.cells = omega (arith, below) in
    put-more c.args.plan.now p c.args.piece.now c.loop-one.one-index i c.one-item.result (part_at p c.args.cells.now i) (part_at p c.loop-one.cells i) (part_at p c.put_at.new.cells i) (c.step_of-by_v.result + c.step_of-by_w.result)
    c.loop-one-test.true c.one-item.is (number-two c.args.plan.now (category_at c.one-item.result) c.used-v.result.0 c.used-w.result.0 c.step_of-by_v.result c.step_of-by_w.result c.requires.vars c.used-v.ensures.variable c.used-w.ensures.variable c.step_of-by_v.ensures.step c.step_of-by_w.ensures.step)
    (c.loop-one.invariant p i below) (c.put_at.ensures p i before)

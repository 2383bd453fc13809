use Rattle.std.proofs.Common.{◌<◌, length, arith}
use Rattle.tb_base.specs.Parts.{part_at}
use Rattle.tb_scan.proofs.Scans.{put-more}
use Rattle.tb_scan.proofs.put.put_by_any.Goals as goal

pub loop-one-preserved : goal.loop-one-preserved
loop-one-preserved c = λ p i below.
    let before : i < length c.loop-one.cells = omega (arith, below) in
    put-more c.args.plan.now p c.args.piece.now c.loop-one.one-index i c.one-item.result (part_at p c.args.cells.now i) (part_at p c.loop-one.cells i) (part_at p c.put_at.new.cells i) c.number_of.result
    c.loop-one-test.true c.one-item.is c.number_of.ensures (c.loop-one.invariant p i below) (c.put_at.ensures p i before)

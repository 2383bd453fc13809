use Rattle.std.proofs.Common.{◌==◌, ◌+◌, ◌||◌, ◌<◌, ◌*◌, ℕ, get_or, drop, length, arith}
use Rattle.tb_marks.specs.Raised.{meets}
use Rattle.tb_marks.proofs.Marking.{marked-both, marked-same, meets-end, meets-here}
use Rattle.tb_marks.proofs.marks.+mark_from.Goals as goal

pub returns-then-d-sizes : goal.returns-then-d-sizes
returns-then-d-sizes t c =
    let ns = c.args.sizes.now in
    marked-same (λ i. c.args.x == i) (meets (drop c.args.d ns) c.args.x) c.args.stamp c.args.key c.args.seen.now c.mark_at.new.seen c.args.cells.now c.mark_at.new.cells
    (λ i _. meets-end ns c.args.d c.args.x i (omega arith)) c.mark_at.ensures

pub returns : goal.returns
returns t c =
    let ns = c.args.sizes.now in
    let there : c.args.d < length ns = omega arith in
    let rest = drop (c.args.d + 1) ns in
    let up : ℕ = get_or c.args.ups.now (c.args.d * length c.args.cells.now + c.args.x) 0 in
    marked-same (λ i. meets rest c.args.x i || meets rest up i) (meets (drop c.args.d ns) c.args.x) c.args.stamp c.args.key c.args.seen.now c.mark_from-2.new.seen c.args.cells.now c.mark_from-2.new.cells
    (λ i _. meets-here ns c.args.d c.args.x up i there (c.requires.ups.raised c.args.d c.args.x there c.requires.place))
    (marked-both (meets rest c.args.x) (meets rest up) c.args.stamp c.args.key c.args.seen.now c.mark_from.new.seen c.mark_from-2.new.seen c.args.cells.now c.mark_from.new.cells c.mark_from-2.new.cells c.mark_from.auto.cells c.mark_from.ensures c.mark_from-2.ensures)

use Rattle.std.proofs.Common.{List, [], ℕ, length, subst, sym, ap, arith}
use Rattle.tb_base.specs.Pieces.{between}
use Rattle.tb_cube.proofs.ByColumn.{all-numbered, none-numbered, NumberedBy}
use Rattle.tb_cube.proofs.columns.write_numbers.Goals as goal

pub loop-axis-init : goal.loop-axis-init
loop-axis-init c = record {
  long = ap (λ (ns : List ℕ). length ns) c.requires.zero;
  so_far = subst (λ (ns : List ℕ). NumberedBy [] (between c.args.from c.args.to c.args.piece.now) ns) (sym c.requires.zero) (none-numbered (between c.args.from c.args.to c.args.piece.now) 1024 c.requires.few);
}

pub returns : goal.returns
returns c = λ _.
    all-numbered c.args.axes.now c.loop-axis.axis-index (between c.args.from c.args.to c.args.piece.now) c.loop-axis.numbers (omega (arith, c.loop-axis-test.false))
    (omega (arith, c.requires.few, c.loop-axis.invariant.long)) c.requires.lead c.loop-axis.invariant.so_far

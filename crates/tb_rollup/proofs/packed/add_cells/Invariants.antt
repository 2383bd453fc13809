use Rattle.std.proofs.Common.{◌*◌, length}
use Rattle.tb_rollup.specs.Rolling.{AreAdded, AreBetween}
use Rattle.tb_rollup.proofs.packed.add_cells.Given as goal

abbrev pub invariant-loop-left : goal.invariant-loop-left
invariant-loop-left l = record {
  between : AreBetween (l.k * length l.last.steps.now) (length l.cube.cells) l.left;
  added : AreAdded l.plan l.cube.vars l.kept l.initial.cells l.left l.cells;
}

abbrev pub decreases-loop-left : goal.decreases-loop-left
decreases-loop-left l = length l.left

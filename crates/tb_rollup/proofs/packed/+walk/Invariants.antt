use Rattle.std.proofs.Common.{◌+◌, ◌-◌, ◌*◌, length, drop}
use Rattle.tb_cube.specs.Cubes.{cell_count}
use Rattle.tb_rollup.specs.Rolling.{AreAdded, AreBetween}
use Rattle.tb_rollup.proofs.packed.+walk.Given as goal

abbrev pub decreases-walk : goal.decreases-walk
decreases-walk l = l.last.now.at - l.j

abbrev pub invariant-loop-c : goal.invariant-loop-c
invariant-loop-c l = record {
  between : AreBetween ((l.k * l.n + l.c) * cell_count l.plan.shape (drop (l.j + 1) l.cube.vars)) (length l.cube.cells) l.left;
  added : AreAdded l.plan l.cube.vars l.kept l.initial.cells l.left l.cells;
}

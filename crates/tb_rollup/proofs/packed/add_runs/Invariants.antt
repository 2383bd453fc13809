use Rattle.std.proofs.Common.{◌+◌, ◌*◌, length}
use Rattle.tb_rollup.specs.Rolling.{AreAdded, AreBetween}
use Rattle.tb_rollup.proofs.packed.add_runs.Given as goal

abbrev pub invariant-loop-c : goal.invariant-loop-c
invariant-loop-c l = record {
  between : AreBetween (l.k * (length l.last.steps.now * l.last.run) + l.c * l.last.run) (length l.cube.cells) l.left;
  added : AreAdded l.plan l.cube.vars l.kept l.initial.cells l.left l.cells;
}

use Rattle.std.proofs.Common.{◌≤◌, length, drop}
use Rattle.tb_rollup.specs.Rolling.{AreUnused}
use Rattle.tb_rollup.proofs.steps.used_part.Given as goal

abbrev pub invariant-loop-part : goal.invariant-loop-part
invariant-loop-part l = record {
  within : l.part ≤ length l.cube.vars;
  rest : AreUnused l.plan (drop l.part l.cube.vars);
}

abbrev pub decreases-loop-part : goal.decreases-loop-part
decreases-loop-part l = l.part

use Rattle.std.proofs.Common.{◌≡◌, ◌++◌, drop}
use Rattle.tb_cube.specs.Narrowing.{steps_of}
use Rattle.tb_cube.proofs.narrowing.steps_of.Given as goal

abbrev pub invariant-loop-j : goal.invariant-loop-j
invariant-loop-j l = l.steps.items ++ steps_of l.shape l.axes (drop l.j l.vars) ≡ steps_of l.shape l.axes l.vars

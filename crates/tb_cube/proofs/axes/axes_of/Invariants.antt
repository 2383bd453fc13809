use Rattle.std.proofs.Common.{◌≡◌, ◌++◌, drop}
use Rattle.tb_cube.specs.Axes.{axes_of}
use Rattle.tb_cube.proofs.axes.axes_of.Given as goal

abbrev pub invariant-loop-j : goal.invariant-loop-j
invariant-loop-j l = l.axes.items ++ axes_of l.shape (drop l.j l.vars) ≡ axes_of l.shape l.vars

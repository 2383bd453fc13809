use Rattle.std.proofs.Common.{◌≡◌, drop}
use Rattle.tb_cube.specs.Narrowing.{stride_in}
use Rattle.tb_cube.proofs.narrowing.stride_of.Given as goal

abbrev pub invariant-loop-axis : goal.invariant-loop-axis
invariant-loop-axis l = stride_in (drop l.axis-index l.axes) l.v ≡ stride_in l.axes l.v

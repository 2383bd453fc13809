use Rattle.std.proofs.Common.{◌≡◌, ◌+◌, drop}
use Rattle.tb_base.specs.Records.{category_at}
use Rattle.tb_cube.specs.Axes.{number_by}
use Rattle.tb_cube.proofs.axes.number_of.Given as goal

abbrev pub invariant-loop-axis : goal.invariant-loop-axis
invariant-loop-axis l = l.number + number_by (drop l.axis-index l.axes) (category_at l.one) ≡ number_by l.axes (category_at l.one)

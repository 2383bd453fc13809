use Rattle.std.proofs.Common.{◌≡◌, ◌++◌, drop}
use Rattle.tb_cube.specs.Packing.{kept_from}
use Rattle.tb_cube.proofs.packing.kept_of.Given as goal

abbrev pub invariant-loop-i : goal.invariant-loop-i
invariant-loop-i l = l.kept.items ++ kept_from l.i (drop l.i l.cells) ≡ kept_from 0 l.cells

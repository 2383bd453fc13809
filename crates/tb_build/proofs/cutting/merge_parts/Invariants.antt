use Rattle.std.proofs.Common.{◌≡◌, ◌*◌, take}
use Rattle.tb_cube.specs.Cubes.{cube_over}
use Rattle.tb_build.specs.Parts.{records_in}
use Rattle.tb_build.proofs.cutting.merge_parts.Given as goal

-- the cube holds the records of the parts so far
abbrev pub invariant-loop-other : goal.invariant-loop-other
invariant-loop-other l = l.cube ≡ cube_over l.fn.cube.shape l.fn.cube.vars (take (l.other-index * l.size) (records_in l.lent))

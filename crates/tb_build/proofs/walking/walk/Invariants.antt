use Rattle.std.proofs.Common.{◌≡◌, length, take}
use Rattle.tb_cube.specs.Cubes.{cube_over}
use Rattle.tb_base.specs.Pieces.{between}
use Rattle.tb_build.specs.Parts.{records_in}
use Rattle.tb_build.proofs.walking.walk.Given as goal

-- the cube holds the records of the pieces so far that lie between the places
abbrev pub invariant-loop-i : goal.invariant-loop-i
invariant-loop-i l = record {
  before : l.before ≡ length (records_in (take l.i l.lent));
  cube : l.cube ≡ cube_over l.fn.cube.shape l.fn.cube.vars (between l.from l.to (records_in (take l.i l.lent)));
}

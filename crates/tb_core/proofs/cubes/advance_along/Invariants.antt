use Rattle.std.proofs.Common.{◌≡◌, ◌+◌, take}
use Rattle.tb_cube.specs.Cubes.{cube_over}
use Rattle.tb_model.specs.Releases.{ReleaseValue}
use Rattle.tb_release.specs.Chains.{change_count, release_after}
use Rattle.tb_core.specs.Advancing.{CanAdvanceAlong}
use Rattle.tb_core.proofs.cubes.advance_along.Given as goal

-- whatever release the cube was of, it is of the one after the batches so far, whose changes are
-- counted
abbrev pub invariant-loop-i : goal.invariant-loop-i
invariant-loop-i g l = record {
  cube : (release : ReleaseValue) → CanAdvanceAlong l.fn.cube l.pending release → l.cube ≡ cube_over l.fn.cube.shape l.fn.cube.vars (release_after release (take l.i l.pending)).records;
  charge : l.steps ≡ l.fn.steps + change_count (take l.i l.pending);
}

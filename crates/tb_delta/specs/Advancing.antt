-- A change in a cube, and the releases from which a cube can advance.
use Rattle.std.specs.Prelude.{◌≡◌, true}
use Rattle.std.specs.Option.{ForSome}
use Rattle.tb_model.specs.Releases.{ReleaseValue}
use Rattle.tb_cube.specs.Cubes.{put_in, taken_out, CanPutIn, CanTakeOut, CubeValue, Holds}
use Rattle.tb_release.specs.declared.edits.Change.{Change}
use Rattle.tb_release.specs.Releases.{IsSound}
use Rattle.tb_release.specs.Batches.{BatchValue, Follows}

-- a cube with the record before a change taken out, and the one after it put in
abbrev pub with_change : CubeValue → Change → CubeValue
with_change cube change = put_in change.after (taken_out change.before cube)

-- the record before a change may be taken out of a dense cube, and then the one after it may be
-- put in
pub record CanMake (cube : CubeValue) (change : Change) : Type 0 where
  pub dense : cube.dense ≡ true
  pub before : ForSome change.before (CanTakeOut cube)
  pub after : ForSome change.after (CanPutIn (taken_out change.before cube))

-- a cube can advance by a batch from a sound release: it is dense and holds the release's records,
-- and the batch follows the release
pub record CanAdvance (cube : CubeValue) (batch : BatchValue) (release : ReleaseValue)
    : Type 0 where
  pub sound : IsSound release
  pub dense : cube.dense ≡ true
  pub holds : Holds cube release.records
  pub follows : Follows release batch

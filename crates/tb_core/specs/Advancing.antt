-- From which release a cube can advance along a chain.
use Rattle.std.specs.Prelude.{◌≡◌, true, All, List}
use Rattle.std.specs.List.{AllByRecursion}
use Rattle.tb_cube.specs.Cubes.{CubeValue, Holds}
use Rattle.tb_model.specs.Releases.{ReleaseValue}
use Rattle.tb_release.specs.Batches.{BatchValue}
use Rattle.tb_release.specs.Chains.{IsChain}
use Rattle.tb_release.specs.Releases.{IsSound}
use Rattle.tb_release.specs.Results.{ChangeFits}

-- a cube can advance along a chain from a sound release: it is dense and holds the release's
-- records, the chain goes on from there, and its changes fit the cube's shape
pub record CanAdvanceAlong (cube : CubeValue) (chain : List BatchValue) (release : ReleaseValue)
    : Type 0 where
  pub sound : IsSound release
  pub dense : cube.dense ≡ true
  pub holds : Holds cube release.records
  pub is_chain : IsChain release chain
  pub changes_fit : AllByRecursion (λ batch. All (ChangeFits cube.shape) batch.changes) chain

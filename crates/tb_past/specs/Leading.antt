-- A cube of a release of a chain, and what lies between two releases.
use Rattle.std.specs.Prelude.{◌≡◌, ◌+◌, ◌-◌, ℕ, List, take}
use Rattle.tb_cube.specs.Cubes.{cube_over, CubeValue}
use Rattle.tb_model.specs.Releases.{ReleaseValue}
use Rattle.tb_release.specs.Batches.{BatchValue}
use Rattle.tb_release.specs.Chains.{change_count}
use Rattle.tb_release.specs.Revised.{release_at, IsRevised}

-- a cube is that of release n of a chain on a release 0, whose records fit its shape
pub record IsCubeOf (base : ReleaseValue) (chain : List BatchValue) (n : ℕ) (cube : CubeValue)
    : Type 0 where
  pub revised : IsRevised cube.shape base chain
  pub counted : cube ≡ cube_over cube.shape cube.vars (release_at base chain n).records

-- how many changes there are between two releases of a chain, whichever is the later one
abbrev pub changes_between : List BatchValue → ℕ → ℕ → ℕ
changes_between chain m n =
    (change_count (take n chain) - change_count (take m chain))
    + (change_count (take m chain) - change_count (take n chain))

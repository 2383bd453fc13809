-- Over which variables there is a cube.
use Rattle.std.specs.Prelude.{◌<◌, ◌≤◌, ℕ, All, List, length}
use Rattle.tb_cube.specs.Cubes.{cell_count}
use Rattle.tb_grid.specs.declared.products.TheConstants.{MOST_CELLS}

-- there is a cube over some variables: they are the shape's, and its cells are not too many
pub record HasCube (shape vars : List ℕ) : Type 0 where
  pub there : All (λ v. v < length shape) vars
  pub few : cell_count shape vars ≤ MOST_CELLS

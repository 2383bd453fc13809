-- How a cube keeps its cells.
use Rattle.std.specs.Prelude.{◌≡◌, ℕ, Bool, true, false, List}
use Rattle.tb_base.specs.declared.cells.Cell.{Cell}
use Rattle.tb_cube.specs.declared.axes.Axis.{Axis}
use Rattle.tb_cube.specs.declared.packing.Form.{Form}
use Rattle.tb_cube.specs.declared.packing.Form.TheVariants.{Dense, Packed}
use Rattle.tb_cube.specs.Axes.{IsCube}
use Rattle.tb_cube.specs.Cubes.{CubeValue}
use Rattle.tb_cube.specs.Packing.{all_cells, kept_from}

abbrev pub cells_of : Form → List Cell
cells_of (Dense cells) = cells.items
cells_of (Packed long kept) = all_cells long kept.items

abbrev pub is_dense : Form → Bool
is_dense (Dense cells) = true
is_dense (Packed long kept) = false

-- what is kept is all that isn't empty, in ascending places
abbrev pub AreKept : Form → Type 0
AreKept (Dense cells) = Unit {0}
AreKept (Packed long kept) = kept.items ≡ kept_from 0 (all_cells long kept.items)

-- a cube as it is seen
abbrev pub seen_as : List ℕ → List ℕ → Form → CubeValue
seen_as shape vars form =
    record { shape = shape; vars = vars; cells = cells_of form; dense = is_dense form }

-- a cube as it is kept
pub record IsKeptCube (shape vars : List ℕ) (axes : List Axis) (form : Form) : Type 0 where
  pub cube : IsCube (seen_as shape vars form) axes
  pub kept : AreKept form

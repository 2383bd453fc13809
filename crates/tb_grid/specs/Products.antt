-- How many cells a cube has.
use Rattle.std.specs.Prelude.{ℕ, ◌+◌, min, List, map, slice_index}
use Rattle.tb_model.specs.RowMajor.{product}
use Rattle.tb_grid.specs.declared.products.TheConstants.{MOST_CELLS}

-- how many cells the cube over some variables of a shape has, cut off above the largest
abbrev pub cells_over : List ℕ → List ℕ → ℕ
cells_over shape vars = min (product (map (slice_index shape) vars)) (MOST_CELLS + 1)

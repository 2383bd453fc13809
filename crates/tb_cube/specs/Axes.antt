-- The number of a record's cell, as a sum of one term for each variable.
use Rattle.std.specs.Prelude.{◌≡◌, ◌*◌, ◌<◌, ℕ, List, [], ◌∷◌, length, map, All}
use Rattle.std.specs.Prelude.{slice_index_or, slice_set}
use Rattle.std.specs.List.{sum_by}
use Rattle.tb_base.specs.declared.cells.Cell.{Cell}
use Rattle.tb_base.specs.declared.records.Record.{Record}
use Rattle.tb_base.specs.Cells.{empty_cell, with_key}
use Rattle.tb_base.specs.Records.{category_at}
use Rattle.tb_grid.specs.Products.{cells_over}
use Rattle.tb_base.specs.Pieces.{code_column, key_column}
use Rattle.tb_cube.specs.declared.axes.Axis.{Axis}
use Rattle.tb_cube.specs.Cubes.{CubeValue, IsWhole}

-- each variable, with the number of cells that one category more leads on
abbrev pub axes_of : List ℕ → List ℕ → List Axis
axes_of shape [] = []
axes_of shape (v ∷ vs) = record { variable = v; stride = cells_over shape vs } ∷ axes_of shape vs

-- the number of some categories' cell
abbrev pub number_by : List Axis → (ℕ → ℕ) → ℕ
number_by axes at = sum_by (λ a. at a.variable * a.stride) axes

-- the numbers of the records' cells
abbrev pub numbers_by : List Axis → List Record → List ℕ
numbers_by axes records = map (λ r. number_by axes (category_at r)) records

-- the cells with records put in one after another
abbrev pub with_all : List Axis → List Cell → List Record → List Cell
with_all axes cells [] = cells
with_all axes cells (r ∷ rs) =
    let number = number_by axes (category_at r) in
    with_all axes
    (slice_set cells number (with_key (slice_index_or cells number empty_cell) r.key)) rs

-- no axis: where a list of axes has none
abbrev pub no_axis : Axis
no_axis = record { variable = 0; stride = 0 }

-- the codes of records of an axis' variable, by the axis' place
abbrev pub codes_by : List Axis → ℕ → List Record → List ℕ
codes_by axes k records = code_column records (slice_index_or axes k no_axis).variable

-- a record has a category of each axis' variable, and its number is below a limit
pub record LeadsBelow (limit : ℕ) (axes : List Axis) (r : Record) : Type 0 where
  pub there : All (λ a. a.variable < length r.codes) axes
  pub low : number_by axes (category_at r) < limit

-- the numbers of records' cells, which are below a limit, and the records' keys
pub record AreNumbered (limit : ℕ) (axes : List Axis) (records : List Record)
    (numbers keys : List ℕ) : Type 0 where
  pub lead : All (LeadsBelow limit axes) records
  pub numbers_are : numbers ≡ numbers_by axes records
  pub keys_are : keys ≡ key_column records

-- a cube as it is kept
pub record IsCube (cube : CubeValue) (axes : List Axis) : Type 0 where
  pub whole : IsWhole cube
  pub axes_are : axes ≡ axes_of cube.shape cube.vars

-- A cube as it is seen, the records that it holds, and what becomes of it.
use Rattle.std.specs.Prelude.{◌≡◌, ◌+◌, ◌*◌, ◌<◌, ◌≤◌, ℕ, if◌then◌else◌}
use Rattle.std.specs.Prelude.{◌&&◌, Bool, true, not}
use Rattle.std.specs.Prelude.{List, [], ◌∷◌, length, map, zip, All}
use Rattle.std.specs.Prelude.{slice_index, slice_index_or, slice_set, bytes_eq}
use Rattle.std.specs.Prelude.{Option, Some, None}
use Rattle.std.specs.List.Sorted.{IsStrictlyIncreasing}
use Rattle.tb_base.specs.declared.cells.Cell.{Cell}
use Rattle.tb_base.specs.declared.people.TheConstants.{MOST_PERSONS}
use Rattle.tb_base.specs.declared.records.Record.{Record}
use Rattle.tb_base.specs.Cells.{empty_cell, merged, merged_all, with_key, without_key, IsReduced}
use Rattle.tb_base.specs.Records.{category_at, Fits}
use Rattle.tb_grid.specs.declared.products.TheConstants.{MOST_CELLS}
use Rattle.tb_model.specs.Cubes.{category_lists, cube_of, narrowed}
use Rattle.tb_model.specs.RowMajor.{product}
use Rattle.tb_cube.specs.Packing.{filled, is_sparse}

-- a shape, some of its variables, and a cell for each list of their categories, in row-major order;
-- and whether all cells are kept, the empty ones too
pub record CubeValue : Type 0 where
  pub shape : List ℕ
  pub vars : List ℕ
  pub cells : List Cell
  pub dense : Bool

-- how many cells a cube over some variables has
abbrev pub cell_count : List ℕ → List ℕ → ℕ
cell_count shape vars = product (map (slice_index shape) vars)

-- the cube of some records over some variables
abbrev pub cube_over : List ℕ → List ℕ → List Record → CubeValue
cube_over shape vars records =
    record { shape = shape; vars = vars; cells = cube_of shape vars records; dense = true }

-- a cube holds these records and no others: its cells are those of the definitions' cube
abbrev pub Holds : CubeValue → List Record → Type 0
Holds cube records = cube.cells ≡ cube_of cube.shape cube.vars records

-- a cube over fewer of its variables: each cell merges those that agree with it on them
abbrev pub narrowed_to : List ℕ → CubeValue → CubeValue
narrowed_to fewer cube =
    record cube {
      vars = fewer;
      cells = narrowed cube.shape cube.vars fewer cube.cells;
      dense = true;
    }

-- a cube with the same cells, of which all are kept
abbrev pub unpacked : CubeValue → CubeValue
unpacked cube = record cube { dense = true }

-- a cube with the same cells, of which the empty ones aren't kept where at least three in four are
-- empty
abbrev pub packed : CubeValue → CubeValue
packed cube = record cube { dense = cube.dense && not (is_sparse cube.cells) }

-- how many cells are kept
abbrev pub kept_count : CubeValue → ℕ
kept_count cube = if cube.dense then length cube.cells else filled cube.cells

-- a cube with each of its cells merged with one
abbrev pub merged_with : CubeValue → List Cell → CubeValue
merged_with cube cells = record cube { cells = merged_all cube.cells cells }

-- a cube with one of its cells merged with one
abbrev pub merged_at : CubeValue → ℕ → Cell → CubeValue
merged_at cube place cell =
    record cube {
      cells = slice_set cube.cells place
          (merged (slice_index_or cube.cells place empty_cell) cell);
    }

-- a cube whose cell of a record's categories is changed, and no other
abbrev pub changed_for : (Cell → Cell) → Record → CubeValue → CubeValue
changed_for change r cube =
    record cube {
      cells = map
          (λ p. if bytes_eq (map (category_at r) cube.vars) p.0 then change p.1 else p.1)
          (zip (category_lists cube.shape cube.vars) cube.cells);
    }

-- a cube with a record taken out of the cell of its categories, if there is one, and put into it
abbrev pub taken_out : Option Record → CubeValue → CubeValue
taken_out None cube = cube
taken_out (Some r) cube = changed_for (λ cell. without_key cell r.key) r cube

abbrev pub put_in : Option Record → CubeValue → CubeValue
put_in None cube = cube
put_in (Some r) cube = changed_for (λ cell. with_key cell r.key) r cube

-- the number of the place of some categories, in row-major order
abbrev pub place_of : List ℕ → List ℕ → (ℕ → ℕ) → ℕ
place_of shape [] at = 0
place_of shape (v ∷ vs) at = at v * cell_count shape vs + place_of shape vs at

-- how many records the cell of a record's categories counts
abbrev pub count_for : CubeValue → Record → ℕ
count_for cube r =
    (slice_index_or cube.cells (place_of cube.shape cube.vars (category_at r)) empty_cell).count

-- a record may be taken out: it fits, and its cell counts one at least
pub record CanTakeOut (cube : CubeValue) (r : Record) : Type 0 where
  pub fits : Fits cube.shape r
  pub counted : 0 < count_for cube r

-- a record may be put in: it fits, and its cell has room for one more
pub record CanPutIn (cube : CubeValue) (r : Record) : Type 0 where
  pub fits : Fits cube.shape r
  pub room : count_for cube r < MOST_PERSONS

-- the cells have room for each other's records
abbrev pub HasRoom : CubeValue → CubeValue → Type 0
HasRoom a b =
    (place : ℕ) (d : Cell) → place < length a.cells
    → (slice_index_or a.cells place d).count + (slice_index_or b.cells place d).count
    ≤ MOST_PERSONS

-- what is true of each cube: its variables ascend and are the shape's, and it has a cell for each
-- list of their categories, which are not too many, with key sums below the largest key range
pub record IsWhole (cube : CubeValue) : Type 0 where
  pub ascending : IsStrictlyIncreasing cube.vars
  pub there : All (λ v. v < length cube.shape) cube.vars
  pub long : length cube.cells ≡ cell_count cube.shape cube.vars
  pub few : length cube.cells ≤ MOST_CELLS
  pub reduced : All IsReduced cube.cells

-- Cubes over some variables, and the cells of a table from a cube.
use Rattle.std.specs.Prelude.{ℕ, ◌==◌, Bool, if◌then◌else◌, List, [], ◌∷◌}
use Rattle.std.specs.Prelude.{map, filter, zip, slice_index, bytes_eq}
use Rattle.std.specs.List.{range_with_len}
use Rattle.tb_base.specs.declared.records.Record.{Record}
use Rattle.tb_base.specs.declared.cells.Cell.{Cell}
use Rattle.tb_base.specs.Records.{category_at}
use Rattle.tb_base.specs.Cells.{cell_of, merged_sum}
use Rattle.tb_model.specs.Schemas.{SchemaValue}
use Rattle.tb_model.specs.Queries.{QueryValue}
use Rattle.tb_model.specs.RowMajor.{row_major}
use Rattle.tb_model.specs.Places.{belongs, places_of}

-- the lists of categories of some variables of a shape, in row-major order
abbrev pub category_lists : List ℕ → List ℕ → List (List ℕ)
category_lists shape vars = row_major (map (λ v. range_with_len 0 (slice_index shape v)) vars)

-- the cube over some variables of a shape: the cell of each list of their categories, in row-major
-- order
abbrev pub cube_of : List ℕ → List ℕ → List Record → List Cell
cube_of shape vars records =
    map
    (λ categories. cell_of (filter (λ r. bytes_eq (map (category_at r) vars) categories) records))
    (category_lists shape vars)

-- the category of a variable in a list of categories of some variables
abbrev pub category_in : List ℕ → List ℕ → ℕ → ℕ
category_in [] categories v = 0
category_in (w ∷ ws) [] v = 0
category_in (w ∷ ws) (c ∷ cs) v = if w == v then c else category_in ws cs v

-- the merge of a cube's cells at which a test of the categories passes
abbrev pub merged_where : ((ℕ → ℕ) → Bool) → List ℕ → List ℕ → List Cell → Cell
merged_where test shape vars cells =
    merged_sum
    (map (λ c. c.1)
    (filter (λ c. test (category_in vars c.0)) (zip (category_lists shape vars) cells)))

-- the cells of a table from a cube's cells: each place merges the cells that pass the filters and
-- lie in it
abbrev pub rolled_up : SchemaValue → QueryValue → List ℕ → List ℕ → List Cell → List Cell
rolled_up schema query shape vars cells =
    map (λ place. merged_where (belongs schema query place) shape vars cells)
    (places_of schema query)

-- the cells of a cube over fewer variables from a cube's cells
abbrev pub narrowed : List ℕ → List ℕ → List ℕ → List Cell → List Cell
narrowed shape vars fewer cells =
    map (λ c. merged_where (λ at. bytes_eq (map at fewer) c) shape vars cells)
    (category_lists shape fewer)

-- Cells of which only those that aren't empty are kept, each with its place.
use Rattle.std.specs.Prelude.{◌+◌, ◌*◌, ◌==◌, ◌<◌, ◌&&◌, ℕ, Bool, not, nat_le, if◌then◌else◌}
use Rattle.std.specs.Prelude.{List, [], ◌∷◌, length, map, count_by}
use Rattle.std.specs.Prelude.{slice_index_or, slice_set}
use Rattle.std.specs.List.{range_with_len}
use Rattle.tb_base.specs.declared.cells.Cell.{Cell}
use Rattle.tb_base.specs.Cells.{empty_cell}
use Rattle.tb_cube.specs.declared.packing.KeptCell.{KeptCell}

abbrev pub is_empty : Cell → Bool
is_empty cell = (cell.count == 0) && (cell.key == 0)

-- how many cells aren't empty
abbrev pub filled : List Cell → ℕ
filled cells = count_by (λ cell. not (is_empty cell)) cells

-- whether at most a quarter of the cells aren't empty
abbrev pub is_sparse : List Cell → Bool
is_sparse cells = nat_le (4 * filled cells) (length cells)

-- what is kept of cells, where the first has this place
abbrev pub kept_from : ℕ → List Cell → List KeptCell
kept_from place [] = []
kept_from place (cell ∷ cells) =
    if is_empty cell then kept_from (place + 1) cells
    else record { place = place; cell = cell } ∷ kept_from (place + 1) cells

-- the cell at a place, which is empty where none is kept
abbrev pub cell_at : List KeptCell → ℕ → Cell
cell_at [] place = empty_cell
cell_at (k ∷ ks) place = if k.place == place then k.cell else cell_at ks place

-- so many cells, of which these are kept
abbrev pub all_cells : ℕ → List KeptCell → List Cell
all_cells long kept = map (cell_at kept) (range_with_len 0 long)

-- kept cells put among all cells at their places
abbrev pub put_at : List KeptCell → List Cell → List Cell
put_at [] cells = cells
put_at (k ∷ ks) cells = put_at ks (slice_set cells k.place k.cell)

-- each kept cell stands before those of greater places
abbrev pub InOrder : List KeptCell → Type 0
InOrder kept =
    (a b : ℕ) (d : KeptCell) → a < b → b < length kept
    → (slice_index_or kept a d).place < (slice_index_or kept b d).place

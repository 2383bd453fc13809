-- The two numbers of a cell, each summed modulo its own number.
use Rattle.std.specs.Prelude.{◌^◌, ℕ, List, slice_index_or}
use Rattle.tb_base.specs.declared.cells.Cell.{Cell}
use Rattle.tb_base.specs.declared.keys.TheConstants.{MOST_KEYS}
use Rattle.tb_base.specs.Cells.{empty_cell}

-- the two numbers of a cell: its count and its key sum
pub data Part : Type 0 where
  counts : Part
  keys : Part

abbrev pub part : Part → Cell → ℕ
part counts cell = cell.count
part keys cell = cell.key

-- the number modulo which each is summed
abbrev pub modulus : Part → ℕ
modulus counts = 2 ^ 32
modulus keys = MOST_KEYS

-- what a record adds to each, by its key
abbrev pub weight : Part → ℕ → ℕ
weight counts key = 1
weight keys key = key

-- a part of the cell at a place, by the place's number
abbrev pub part_at : Part → List Cell → ℕ → ℕ
part_at p cells i = part p (slice_index_or cells i empty_cell)

-- The records that are lent in pieces, and the parts of one length into which they are cut.
use Rattle.std.specs.Prelude.{ℕ, ◌+◌, ◌*◌, List, flat_map}
use Rattle.tb_base.specs.declared.records.Record.{Record}
use Rattle.tb_base.specs.Pieces.{between}

-- the records in some pieces
abbrev pub records_in : List (List Record) → List Record
records_in pieces = flat_map (λ piece. piece) pieces

-- the part with a number, from 0, where each part but the last has this size
abbrev pub part_of : {X : Type 0} → ℕ → List X → ℕ → List X
part_of size xs k = between (k * size) ((k + 1) * size) xs

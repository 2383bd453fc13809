-- The places of a table, the records that belong to a place, and the cells counted from scratch.
use Rattle.std.specs.Prelude.{ℕ, ◌==◌, ◌&&◌, Bool, true, if◌then◌else◌}
use Rattle.std.specs.Prelude.{List, [], ◌∷◌, ◌++◌, map, filter, zip}
use Rattle.std.specs.List.{list_all, range_with_len}
use Rattle.tb_base.specs.declared.records.Record.{Record}
use Rattle.tb_base.specs.declared.cells.Cell.{Cell}
use Rattle.tb_base.specs.Records.{category_at}
use Rattle.tb_base.specs.Cells.{cell_of}
use Rattle.tb_model.specs.declared.names.NameOf.{NameOf}
use Rattle.tb_model.specs.declared.names.Entry.{Entry}
use Rattle.tb_model.specs.declared.names.Entry.TheVariants as entry
use Rattle.tb_model.specs.Schemas.{SchemaValue, category_of, category_count}
use Rattle.tb_model.specs.Queries.{QueryValue, passes_all}
use Rattle.tb_model.specs.RowMajor.{row_major}

-- a place of a table: for each dimension a category, or Total
abbrev pub Place : Type 0
Place = List Entry

-- the entries of a dimension in order, Total last
abbrev pub entries_of : SchemaValue → QueryValue → NameOf → List Entry
entries_of schema query of =
    map entry.Category (range_with_len 0 (category_count schema of))
    ++ (if query.totals then entry.Total ∷ [] else [])

-- the places of a query's table, the last dimension fastest
abbrev pub places_of : SchemaValue → QueryValue → List Place
places_of schema query = row_major (map (entries_of schema query) query.dimensions)

-- whether an entry is Total or this category
abbrev pub covers : Entry → ℕ → Bool
covers (entry.Category k) category = k == category
covers entry.Total category = true

-- whether a place covers the category under each dimension
abbrev pub lies_in : SchemaValue → List NameOf → Place → (ℕ → ℕ) → Bool
lies_in schema dimensions place at =
    list_all (λ d. covers d.1 (category_of schema d.0 at)) (zip dimensions place)

-- whether categories pass each filter of a query and lie in a place
abbrev pub belongs : SchemaValue → QueryValue → Place → (ℕ → ℕ) → Bool
belongs schema query place at =
    passes_all schema query at && lies_in schema query.dimensions place at

-- the own records of a place: those that pass each filter and lie in the place
abbrev pub own_records : SchemaValue → QueryValue → Place → List Record → List Record
own_records schema query place records =
    filter (λ r. belongs schema query place (category_at r)) records

-- the cells of a query's table, one for each place
abbrev pub cells_of : SchemaValue → QueryValue → List Record → List Cell
cells_of schema query records =
    map (λ place. cell_of (own_records schema query place records)) (places_of schema query)

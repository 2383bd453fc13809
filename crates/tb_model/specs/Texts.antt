-- The text of a table.
use Rattle.std.specs.Prelude.{ℕ, ℤ, if◌then◌else◌, List, [], ◌∷◌, ◌++◌, map, flat_map, zip}
use Rattle.std.specs.Prelude.{codes, decimal, slice_index_or}
use Rattle.csv.specs.Writing.{row_text, default_writer}
use Rattle.tb_base.specs.declared.cells.Cell.{Cell}
use Rattle.tb_model.specs.declared.names.NameOf.{NameOf}
use Rattle.tb_model.specs.declared.names.Entry.{Entry}
use Rattle.tb_model.specs.declared.names.Entry.TheVariants as entry
use Rattle.tb_model.specs.Schemas.{SchemaValue, codes_of, labels_of, name_text}
use Rattle.tb_model.specs.Perturbations.{shown, shown_text}
use Rattle.tb_model.specs.Setups.{SetupValue}
use Rattle.tb_model.specs.Releases.{ReleaseValue}
use Rattle.tb_model.specs.Rules.{pvalues_of, threshold_of}
use Rattle.tb_model.specs.Queries.{QueryValue}
use Rattle.tb_model.specs.Places.{Place, places_of, cells_of}

-- a line of the text
abbrev pub line_text : List ℕ → List ℕ
line_text bytes = bytes ++ 10 ∷ []

-- how an entry of a dimension is shown
abbrev pub entry_text : SchemaValue → QueryValue → NameOf → Entry → List ℕ
entry_text schema query of (entry.Category k) =
    slice_index_or (if query.labels then labels_of schema of else codes_of schema of) k []
entry_text schema query of entry.Total = codes "Total"

-- the line of a place, which shows this cell
abbrev pub place_text : SchemaValue → (ℕ → ℕ → ℤ) → ℕ → QueryValue → Place → Cell → List ℕ
place_text schema pvalues threshold query place cell =
    row_text default_writer
    (map (λ d. entry_text schema query d.0 d.1) (zip query.dimensions place)
    ++ shown_text (shown pvalues threshold cell) ∷ [])

-- the line with the dimensions' names
abbrev pub heading : SchemaValue → QueryValue → List ℕ
heading schema query =
    row_text default_writer (map (name_text schema) query.dimensions ++ codes "count" ∷ [])

-- the text of a table with these cells
abbrev pub text_of_cells : SchemaValue → (ℕ → ℕ → ℤ) → ℕ → QueryValue → ℕ → List Cell → List ℕ
text_of_cells schema pvalues threshold query number cells =
    line_text (codes "release " ++ decimal number)
    ++ heading schema query
    ++ flat_map (λ p. place_text schema pvalues threshold query p.0 p.1)
    (zip (places_of schema query) cells)
    ++ line_text (codes ".")

-- the text of a query's table at a release
abbrev pub table_text : SetupValue → ReleaseValue → QueryValue → List ℕ
table_text setup release query =
    text_of_cells setup.schema (pvalues_of setup release) (threshold_of release) query
    release.number (cells_of setup.schema query release.records)

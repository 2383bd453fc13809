-- The lines of a table's places end with the texts of their worlds.
use Rattle.std.proofs.Common.{◌≡◌, List, [], ◌∷◌, ◌++◌, map, refl, ap, sym, ◌∙◌, append_assoc}
use Rattle.std.specs.Prelude.{codes, decimal, flat_map, zip}
use Rattle.tb_base.specs.declared.cells.Cell.{Cell}
use Rattle.tb_base.specs.Cells.{cell_of}
use Rattle.tb_model.specs.Setups.{SetupValue}
use Rattle.tb_model.specs.Releases.{ReleaseValue}
use Rattle.tb_model.specs.Rules.{pvalues_of, threshold_of}
use Rattle.tb_model.specs.Queries.{QueryValue}
use Rattle.tb_model.specs.Places.{Place, own_records, places_of}
use Rattle.tb_model.specs.Texts.{heading, line_text, place_text}
use Rattle.tb_model.specs.Worlds.{text_at, world_at}
use Rattle.tb_text.specs.PrintedWorlds.{TableShowsWorlds, entries_text, world_line}
use Rattle.tb_text.proofs.PlaceLines.{one_line}

-- the cell of a place
abbrev cell_at : SetupValue → ReleaseValue → QueryValue → Place → Cell
cell_at setup release query place = cell_of (own_records setup.schema query place release.records)

line_of_world : (setup : SetupValue) (release : ReleaseValue) (query : QueryValue) (place : Place)
    → place_text setup.schema (pvalues_of setup release) (threshold_of release) query place (cell_at setup release query place) ≡ world_line setup release query place
line_of_world setup release query place =
    sym (one_line setup.schema (pvalues_of setup release) (threshold_of release) query place (cell_at setup release query place))
    ∙ sym (append_assoc (entries_text setup.schema query place) (text_at (world_at setup release query place)) (10 ∷ []))

lines_of_worlds : (setup : SetupValue) (release : ReleaseValue) (query : QueryValue) (places : List Place)
    → flat_map (λ p. place_text setup.schema (pvalues_of setup release) (threshold_of release) query p.0 p.1) (zip places (map (cell_at setup release query) places))
    ≡ flat_map (world_line setup release query) places
lines_of_worlds setup release query [] = refl
lines_of_worlds setup release query (place ∷ places) =
    rw (line_of_world setup release query place, lines_of_worlds setup release query places) refl

pub table_shows_worlds : TableShowsWorlds
table_shows_worlds setup release query =
    ap (λ lines. line_text (codes "release " ++ decimal release.number) ++ heading setup.schema query ++ lines ++ line_text (codes "."))
    (lines_of_worlds setup release query (places_of setup.schema query))

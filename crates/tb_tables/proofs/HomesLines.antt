-- The lines of a table of dwellings end with the texts of their worlds.
use Rattle.std.proofs.Common.{◌≡◌, List, [], ◌∷◌, ◌++◌, map, refl, ap, sym, ◌∙◌, append_assoc}
use Rattle.std.specs.Prelude.{codes, decimal, flat_map, zip}
use Rattle.tb_base.specs.declared.cells.Cell.{Cell}
use Rattle.tb_model.specs.Setups.{SetupValue}
use Rattle.tb_model.specs.Releases.{ReleaseValue}
use Rattle.tb_model.specs.Rules.{pvalues_of, threshold_of}
use Rattle.tb_model.specs.Queries.{QueryValue}
use Rattle.tb_model.specs.Places.{Place, own_records, places_of}
use Rattle.tb_model.specs.Texts.{heading, line_text, place_text}
use Rattle.tb_model.specs.UnitWorlds.{homes_text_at}
use Rattle.tb_model.specs.Units.{UnitsValue, homes_cell}
use Rattle.tb_tables.specs.HomesWorlds.{HomesTableShowsWorlds, homes_line, homes_world_at}
use Rattle.tb_text.specs.PrintedWorlds.{entries_text}
use Rattle.tb_text.proofs.PlaceLines.{one_line}

module _ (setup : SetupValue) (units : UnitsValue) (release : ReleaseValue) (query : QueryValue) where
  -- the cell of a place
  abbrev cell_at : Place → Cell
  cell_at place = homes_cell units (own_records setup.schema query place release.records)

  line_of_world : (place : Place)
      → place_text setup.schema (pvalues_of setup release) (threshold_of release) query place (cell_at place) ≡ homes_line setup units release query place
  line_of_world place =
      sym (one_line setup.schema (pvalues_of setup release) (threshold_of release) query place (cell_at place))
      ∙ sym (append_assoc (entries_text setup.schema query place) (homes_text_at (homes_world_at setup units release query place)) (10 ∷ []))

  lines_of_worlds : (places : List Place)
      → flat_map (λ p. place_text setup.schema (pvalues_of setup release) (threshold_of release) query p.0 p.1) (zip places (map cell_at places))
      ≡ flat_map (homes_line setup units release query) places
  lines_of_worlds [] = refl
  lines_of_worlds (place ∷ places) = rw (line_of_world place, lines_of_worlds places) refl

pub homes_table_shows_worlds : HomesTableShowsWorlds
homes_table_shows_worlds setup units release query =
    ap (λ lines. line_text (codes "release " ++ decimal release.number) ++ heading setup.schema query ++ lines ++ line_text (codes "."))
    (lines_of_worlds setup units release query (places_of setup.schema query))

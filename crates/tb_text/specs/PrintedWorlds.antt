-- The worlds whose texts a printed table shows.
use Rattle.std.specs.Prelude.{◌≡◌, ℕ, List, ◌++◌, map, flat_map, zip, codes, decimal}
use Rattle.std.specs.List.{concat}
use Rattle.tb_model.specs.Setups.{SetupValue}
use Rattle.tb_model.specs.Schemas.{SchemaValue}
use Rattle.tb_model.specs.Releases.{ReleaseValue}
use Rattle.tb_model.specs.Queries.{QueryValue}
use Rattle.tb_model.specs.Places.{Place, places_of}
use Rattle.tb_model.specs.Texts.{entry_text, heading, line_text, table_text}
use Rattle.tb_model.specs.Worlds.{AgreeAt, text_at, world_at}
use Rattle.tb_text.specs.Lines.{before_another}

-- the fields of a place's entries, each with a comma
abbrev pub entries_text : SchemaValue → QueryValue → Place → List ℕ
entries_text schema query place =
    concat (map (λ d. before_another (entry_text schema query d.0 d.1))
    (zip query.dimensions place))

-- the line of a place: the fields of its entries, and the text that its world shows
abbrev pub world_line : SetupValue → ReleaseValue → QueryValue → Place → List ℕ
world_line setup release query place =
    line_text
    (entries_text setup.schema query place ++ text_at (world_at setup release query place))

-- each line of a table ends with the text that its place's world shows: the table is the release's
-- number, the names, the line of each place in order, and the end
abbrev pub TableShowsWorlds : Type 0
TableShowsWorlds =
    (setup : SetupValue) (release : ReleaseValue) (query : QueryValue) →
    table_text setup release query
    ≡ line_text (codes "release " ++ decimal release.number)
    ++ heading setup.schema query
    ++ flat_map (world_line setup release query) (places_of setup.schema query)
    ++ line_text (codes ".")

-- where the worlds of two places agree, over any two setups, releases and queries, the tables show
-- the same text there
abbrev pub AgreeingPlacesShowTheSame : Type 0
AgreeingPlacesShowTheSame =
    (setup one : SetupValue) (release two : ReleaseValue) (query three : QueryValue)
    (place four : Place) →
    AgreeAt (world_at setup release query place) (world_at one two three four) →
    text_at (world_at setup release query place) ≡ text_at (world_at one two three four)

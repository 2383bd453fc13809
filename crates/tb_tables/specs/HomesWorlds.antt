-- The worlds whose texts a printed table of dwellings shows.
use Rattle.std.specs.Prelude.{◌≡◌, ℕ, List, ◌++◌, flat_map, codes, decimal}
use Rattle.tb_model.specs.Places.{Place, places_of}
use Rattle.tb_model.specs.Queries.{QueryValue}
use Rattle.tb_model.specs.Releases.{ReleaseValue}
use Rattle.tb_model.specs.Setups.{SetupValue}
use Rattle.tb_model.specs.Texts.{heading, line_text}
use Rattle.tb_model.specs.UnitWorlds.{HomesWorld, homes_text_at}
use Rattle.tb_model.specs.Units.{UnitsValue}
use Rattle.tb_model.specs.Worlds.{world_at}
use Rattle.tb_tables.specs.Homes.{homes_text}
use Rattle.tb_text.specs.PrintedWorlds.{entries_text}

-- the world of a place of a query's table of dwellings: that of its persons, and the dwellings
abbrev pub homes_world_at : SetupValue → UnitsValue → ReleaseValue → QueryValue → Place → HomesWorld
homes_world_at setup units release query place =
    record { world = world_at setup release query place; units = units }

-- the line of a place: the fields of its entries, and the text that its world shows
abbrev pub homes_line : SetupValue → UnitsValue → ReleaseValue → QueryValue → Place → List ℕ
homes_line setup units release query place =
    line_text
    (entries_text setup.schema query place
    ++ homes_text_at (homes_world_at setup units release query place))

-- each line of a table of dwellings ends with the text that its place's world shows
abbrev pub HomesTableShowsWorlds : Type 0
HomesTableShowsWorlds =
    (setup : SetupValue) (units : UnitsValue) (release : ReleaseValue) (query : QueryValue) →
    homes_text setup units release query
    ≡ line_text (codes "release " ++ decimal release.number)
    ++ heading setup.schema query
    ++ flat_map (homes_line setup units release query) (places_of setup.schema query)
    ++ line_text (codes ".")

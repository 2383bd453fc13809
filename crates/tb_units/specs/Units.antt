-- What both files say, or their first fault.
use Rattle.std.specs.Prelude.{ℕ, List, Result, Ok}
use Rattle.tb_base.specs.declared.keys.Keys.{Keys}
use Rattle.tb_model.specs.Units.{PairValue, UnitsValue}
use Rattle.tb_rows.specs.Formats.{and_then}
use Rattle.tb_units.specs.declared.fault.UnitsFile.TheVariants.{Dwellings, Links}
use Rattle.tb_units.specs.declared.fault.UnitsFault.{UnitsFault}
use Rattle.tb_units.specs.Faults.{in_file}
use Rattle.tb_units.specs.Dwellings.{dwellings_of}
use Rattle.tb_units.specs.Links.{links_of}

-- what a file of links says beside dwellings
abbrev pub with_links_of : ℕ → List PairValue → List ℕ → Result UnitsValue UnitsFault
with_links_of most dwellings bytes =
    and_then (in_file Links (links_of most dwellings bytes))
    (λ links. Ok (record { dwellings = dwellings; links = links }))

-- what both files say under a limit, which each of them has, and a key range, or the first fault of
-- the first file that has one; the dwellings are tested wholly before the links
abbrev pub units_of : ℕ → Keys → List ℕ → List ℕ → Result UnitsValue UnitsFault
units_of most keys dwellings links =
    and_then (in_file Dwellings (dwellings_of most keys dwellings))
    (λ ds. with_links_of most ds links)

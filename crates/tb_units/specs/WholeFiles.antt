-- What it means that a file of dwellings or of links is accepted, and that it is refused, said of
-- all its records at once. A fault beside earlier records is what the reading's own step says of
-- its record (`and_dwelling`, `and_link`).
use Rattle.std.specs.Prelude.{◌≡◌, ◌<◌, ℕ, List, [], length, true, false}
use Rattle.tb_base.specs.declared.keys.Keys.{Keys}
use Rattle.tb_model.specs.Units.{PairValue}
use Rattle.tb_rows.specs.WholeFiles as files
use Rattle.tb_rows.specs.WholeFiles.{EachGoes}
use Rattle.tb_units.specs.declared.fault.UnitsKind.{UnitsKind}
use Rattle.tb_units.specs.Pairs.{has_first}
use Rattle.tb_units.specs.Dwellings.{dwellings_file}
use Rattle.tb_units.specs.Links.{links_file}

-- a dwelling goes beside those before it: its number is new, and there is room for one more
abbrev pub DwellingGoes : ℕ → List PairValue → PairValue → Type 0
DwellingGoes most before one = (has_first before one.0 ≡ false) × (length before < most)

-- each of the lines goes beside those before it, and the dwellings are these lines
abbrev pub AreDwellings : ℕ → List PairValue → List PairValue → Type 0
AreDwellings most lines dwellings = EachGoes (DwellingGoes most) [] lines × (dwellings ≡ lines)

-- a link goes beside those before it: its dwelling is one of the dwellings, its person has no link
-- yet, and there is room for one more
abbrev pub LinkGoes : ℕ → List PairValue → List PairValue → PairValue → Type 0
LinkGoes most dwellings before one =
    (has_first dwellings one.1 ≡ true) × (has_first before one.0 ≡ false)
    × (length before < most)

-- each of the lines goes beside those before it, and the links are these lines
abbrev pub AreLinks : ℕ → List PairValue → List PairValue → List PairValue → Type 0
AreLinks most dwellings lines links =
    EachGoes (LinkGoes most dwellings) [] lines × (links ≡ lines)

-- a file of dwellings is accepted under a limit and a key range, and these are they
abbrev pub AcceptsDwellings : ℕ → Keys → List ℕ → List PairValue → Type 0
AcceptsDwellings most keys bytes dwellings =
    files.IsAccepted (dwellings_file most keys) (AreDwellings most) bytes dwellings

-- it is refused with this kind of fault and this number
abbrev pub RefusesDwellings : ℕ → Keys → List ℕ → UnitsKind → ℕ → Type 0
RefusesDwellings most keys bytes kind n =
    files.IsRefused (dwellings_file most keys) (AreDwellings most) bytes kind n

-- a file of links over dwellings is accepted under a limit, and these are they
abbrev pub AcceptsLinks : ℕ → List PairValue → List ℕ → List PairValue → Type 0
AcceptsLinks most dwellings bytes links =
    files.IsAccepted (links_file most dwellings) (AreLinks most dwellings) bytes links

-- it is refused with this kind of fault and this number
abbrev pub RefusesLinks : ℕ → List PairValue → List ℕ → UnitsKind → ℕ → Type 0
RefusesLinks most dwellings bytes kind n =
    files.IsRefused (links_file most dwellings) (AreLinks most dwellings) bytes kind n

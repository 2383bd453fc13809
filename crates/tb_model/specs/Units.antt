-- Dwellings and who lives in them, and the cells of a table that counts dwellings.
use Rattle.std.specs.Prelude.{ℕ, ◌==◌, ◌&&◌, ◌%◌, Bool, List, length, map, filter, sum_by}
use Rattle.std.specs.List.{list_any}
use Rattle.tb_base.specs.declared.cells.Cell.{Cell}
use Rattle.tb_base.specs.declared.keys.TheConstants.{MOST_KEYS}
use Rattle.tb_base.specs.declared.records.Record.{Record}
use Rattle.tb_model.specs.Places.{own_records, places_of}
use Rattle.tb_model.specs.Queries.{QueryValue}
use Rattle.tb_model.specs.Schemas.{SchemaValue}

-- a pair of numbers
abbrev pub PairValue : Type 0
PairValue = ℕ × ℕ

-- dwellings, each a number and a key, and links, each a person and the number of the person's
-- dwelling, both in the order of their files
pub record UnitsValue : Type 0 where
  pub dwellings : List PairValue
  pub links : List PairValue

-- whether a person lives in the dwelling of a number: a link says so
abbrev pub lives_in : List PairValue → ℕ → ℕ → Bool
lives_in links person number = list_any (λ link. (link.0 == person) && (link.1 == number)) links

-- the dwellings of some records: those in which at least one of their persons lives
abbrev pub homes_of : UnitsValue → List Record → List PairValue
homes_of units records =
    filter (λ d. list_any (λ r. lives_in units.links r.person d.0) records) units.dwellings

-- the sum of the keys of some records' dwellings
abbrev pub homes_sum : UnitsValue → List Record → ℕ
homes_sum units records = sum_by (λ d. d.1) (homes_of units records)

-- the cell of some records' dwellings: how many they are, and the sum of their keys modulo the
-- largest key
abbrev pub homes_cell : UnitsValue → List Record → Cell
homes_cell units records =
    record {
      count = length (homes_of units records);
      key = homes_sum units records % MOST_KEYS;
    }

-- the cells of a query's table of dwellings, one for each place: each is that of the dwellings of
-- the place's own records
abbrev pub homes_cells : UnitsValue → SchemaValue → QueryValue → List Record → List Cell
homes_cells units schema query records =
    map (λ place. homes_cell units (own_records schema query place records))
    (places_of schema query)

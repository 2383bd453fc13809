-- What the file of dwellings says: its dwellings, or its first fault.
use Rattle.std.specs.Prelude.{ℕ, List, [], ◌∷◌, ◌++◌, codes, length, Option, Some, None, Result, Ok, Err, nat_le, get_or, if◌then◌else◌}
use Rattle.tb_base.specs.declared.keys.Keys.{Keys}
use Rattle.tb_model.specs.Units.{PairValue}
use Rattle.tb_records.specs.People.{key_of, person_of}
use Rattle.tb_rows.specs.Formats.{Format, value_of}
use Rattle.tb_rows.specs.declared.fault.Fault.{Fault}
use Rattle.tb_units.specs.declared.fault.UnitsKind.{UnitsKind}
use Rattle.tb_units.specs.declared.fault.UnitsKind.TheVariants.{BadHeader, BadDwelling, BadKey, DwellingTwice, BadCsv, TooMany}
use Rattle.tb_units.specs.Pairs.{has_first}

-- the dwelling with this number and this key, or the first fault: the part that is missing
abbrev pub dwelling_of : Option ℕ → Option ℕ → Result PairValue UnitsKind
dwelling_of None key = Err BadDwelling
dwelling_of (Some number) None = Err BadKey
dwelling_of (Some number) (Some key) = Ok (number, key)

-- the dwelling that a record says, by its fields in the columns, or the first fault that the record
-- has by itself; its number is one from 1 on, as a person's is, and its key is as a record key is
abbrev pub dwelling_in : Keys → List (List ℕ) → Result PairValue UnitsKind
dwelling_in keys fields =
    dwelling_of (person_of (get_or fields 0 [])) (key_of keys (get_or fields 1 []))

-- the dwellings, so many at most, with one more at the end, or the fault that it has beside them
abbrev pub and_dwelling : ℕ → List PairValue → PairValue → Result (List PairValue) UnitsKind
and_dwelling most before one =
    if has_first before one.0 then Err DwellingTwice
    else if nat_le most (length before) then Err TooMany
    else Ok (before ++ one ∷ [])

-- how the file of dwellings is read under a limit and a key range
abbrev pub dwellings_file :
    ℕ → Keys → Format PairValue (List PairValue) (List PairValue) UnitsKind
dwellings_file most keys = record {
  columns = codes "dwelling" ∷ codes "dwelling_key" ∷ [];
  line_in = dwelling_in keys;
  start = [];
  add = λ _ before one. and_dwelling most before one;
  finish = λ dwellings. Ok dwellings;
  bad_header = BadHeader;
  bad_csv = BadCsv;
}

-- what the file of dwellings says
abbrev pub dwellings_of : ℕ → Keys → List ℕ → Result (List PairValue) (Fault UnitsKind)
dwellings_of most keys bytes = value_of (dwellings_file most keys) bytes

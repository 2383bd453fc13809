-- What the file of links says: which person lives in which dwelling, or its first fault.
use Rattle.std.specs.Prelude.{ℕ, List, [], ◌∷◌, ◌++◌, codes, length, Option, Some, None, Result, Ok, Err, nat_le, get_or, if◌then◌else◌}
use Rattle.tb_model.specs.Units.{PairValue}
use Rattle.tb_records.specs.People.{person_of}
use Rattle.tb_rows.specs.Formats.{Format, value_of}
use Rattle.tb_rows.specs.declared.fault.Fault.{Fault}
use Rattle.tb_units.specs.declared.fault.UnitsKind.{UnitsKind}
use Rattle.tb_units.specs.declared.fault.UnitsKind.TheVariants.{BadHeader, BadDwelling, BadPerson, UnknownDwelling, PersonTwice, BadCsv, TooMany}
use Rattle.tb_units.specs.Pairs.{has_first}

-- the link of this person to this dwelling, or the first fault: the part that is missing
abbrev pub link_of : Option ℕ → Option ℕ → Result PairValue UnitsKind
link_of None number = Err BadPerson
link_of (Some person) None = Err BadDwelling
link_of (Some person) (Some number) = Ok (person, number)

-- the link that a record says, by its fields in the columns, or the first fault that the record has
-- by itself
abbrev pub link_in : List (List ℕ) → Result PairValue UnitsKind
link_in fields = link_of (person_of (get_or fields 0 [])) (person_of (get_or fields 1 []))

-- the links, so many at most, with one more at the end, or the first fault that it has beside them
abbrev pub and_link : ℕ → List PairValue → List PairValue → PairValue
    → Result (List PairValue) UnitsKind
and_link most dwellings before one =
    if has_first dwellings one.1
    then if has_first before one.0 then Err PersonTwice
    else if nat_le most (length before) then Err TooMany
    else Ok (before ++ one ∷ [])
    else Err UnknownDwelling

-- how the file of links is read under a limit, over the dwellings
abbrev pub links_file : ℕ → List PairValue
    → Format PairValue (List PairValue) (List PairValue) UnitsKind
links_file most dwellings = record {
  columns = codes "person" ∷ codes "dwelling" ∷ [];
  line_in = link_in;
  start = [];
  add = λ _ before one. and_link most dwellings before one;
  finish = λ links. Ok links;
  bad_header = BadHeader;
  bad_csv = BadCsv;
}

-- what the file of links says
abbrev pub links_of : ℕ → List PairValue → List ℕ → Result (List PairValue) (Fault UnitsKind)
links_of most dwellings bytes = value_of (links_file most dwellings) bytes

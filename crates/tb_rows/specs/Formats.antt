-- What a file with a header says: what its records add up to, or its first fault.
use Rattle.std.specs.Prelude.{◌+◌, ◌==◌, ℕ, List, [], ◌∷◌, length, Option, Some, None, Result, Ok, Err, if◌then◌else◌}
use Rattle.tb_rows.specs.Columns.{fields_at, indices_of}
use Rattle.tb_rows.specs.Records.{records_of}
use Rattle.tb_rows.specs.declared.fault.Fault.{Fault}
use Rattle.tb_rows.specs.declared.fault.Fault.TheVariants.{Refused}

-- How the files of one kind are read. A record says a Line, records add up to a SoFar, the whole
-- file says a Value, and each fault has a Kind. Below these are L, V, W and K.
pub record Format (Line SoFar Value Kind : Type 0) : Type 0 where
  -- the names of the columns: a header has each exactly once, in any order and beside any others
  pub columns : List (List ℕ)
  -- the line of a record, by its fields in the columns, which come in the order of `columns`;
  -- or the first fault that the record has by itself
  pub line_in : (fields : List (List ℕ)) → Result Line Kind
  -- what no records add up to
  pub start : SoFar
  -- what the records before number n add up to, with the line of record n added;
  -- or the first fault that record n has beside them
  pub add : (n : ℕ) (so_far : SoFar) (line : Line) → Result SoFar Kind
  -- what the file says, by all of its records;
  -- or a fault that shows only at the end, with the number of the record that it names
  pub finish : (so_far : SoFar) → Result Value (Kind × ℕ)
  -- the fault of a file whose header lacks a column or has it twice, or that has no header
  pub bad_header : Kind
  -- the fault of a record that has not as many fields as the header
  pub bad_csv : Kind

-- what follows where there was no fault
abbrev pub and_then : {A B E : Type 0} → Result A E → (A → Result B E) → Result B E
and_then (Ok x) next = next x
and_then (Err e) next = Err e

-- a fault of the record of this number
abbrev pub at_record : {A K : Type 0} → ℕ → Result A K → Result A (Fault K)
at_record n (Ok x) = Ok x
at_record n (Err kind) = Err (Refused kind n)

-- a fault at the end
abbrev pub at_end : {A K : Type 0} → Result A (K × ℕ) → Result A (Fault K)
at_end (Ok x) = Ok x
at_end (Err fault) = Err (Refused fault.0 fault.1)

-- the line of a whole record under a header with so many fields and the columns at these indices,
-- or the first fault that the record has by itself
abbrev pub line_under : {L V W K : Type 0} → Format L V W K → ℕ → List ℕ → List (List ℕ)
    → Result L K
line_under format width indices fields =
    if length fields == width then format.line_in (fields_at indices fields)
    else Err format.bad_csv

-- what records add up to with the line of record n, or the first fault of that record
abbrev pub and_add : {L V W K : Type 0} → Format L V W K → ℕ → V → Result L K → Result V K
and_add format n v line = and_then line (λ line. format.add n v line)

-- the step of the reading, by a record's fields in the columns: what records add up to with
-- record n, or the first fault of that record, by itself or beside them
abbrev pub step_of : {L V W K : Type 0} → Format L V W K → ℕ → V → List (List ℕ) → Result V K
step_of format n v fields = and_add format n v (format.line_in fields)

-- the same by a whole record
abbrev pub step_under : {L V W K : Type 0} → Format L V W K → ℕ → List ℕ → ℕ → V → List (List ℕ)
    → Result V K
step_under format width indices n v fields =
    and_add format n v (line_under format width indices fields)

-- what a file says whose records from number n on are these, by what those before them add up to
abbrev pub value_from : {L V W K : Type 0} → Format L V W K → ℕ → List ℕ → ℕ → V
    → List (List (List ℕ)) → Result W (Fault K)
value_from format width indices n v [] = at_end (format.finish v)
value_from format width indices n v (fields ∷ more) =
    and_then (at_record n (step_under format width indices n v fields))
    (λ w. value_from format width indices (n + 1) w more)

-- what a file says whose header has so many fields and the columns at these indices, if it has them
abbrev pub under_header : {L V W K : Type 0} → Format L V W K → ℕ → Option (List ℕ)
    → List (List (List ℕ)) → Result W (Fault K)
under_header format width None records = Err (Refused format.bad_header 0)
under_header format width (Some indices) records =
    value_from format width indices 1 format.start records

-- what a file with these records says; the first of them is the header
abbrev pub value_in : {L V W K : Type 0} → Format L V W K → List (List (List ℕ))
    → Result W (Fault K)
value_in format [] = Err (Refused format.bad_header 0)
value_in format (header ∷ records) =
    under_header format (length header) (indices_of format.columns header) records

-- what a file says
abbrev pub value_of : {L V W K : Type 0} → Format L V W K → List ℕ → Result W (Fault K)
value_of format bytes = value_in format (records_of bytes)

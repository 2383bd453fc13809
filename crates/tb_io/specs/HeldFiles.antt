-- Files in memory, by the bytes of their names.
use Rattle.std.specs.Prelude.{◌≡◌, ◌≢◌, ℕ, List, [], map, bytes_eq, Bool, true, false}
use Rattle.std.specs.Prelude.{Option, None, Some, unwrap_or, String, string_bytes, Vec}
use Rattle.std.specs.Global.{Global}
use Rattle.std.specs.List.{list_any}
use Rattle.std.specs.Bool.{nat_eq}
use Rattle.std.specs.Map.{lookup}
use Rattle.tb_io.specs.declared.answers.FileRead.{FileRead}
use Rattle.tb_io.specs.declared.answers.FileRead.TheVariants.{Bytes, TooLong, Failed, Memory}
use Rattle.tb_io.specs.FileAnswers.{IsCopy}
use Rattle.tb_io.specs.Faults.{one_more}

-- each name with its bytes
abbrev pub HeldFiles : Type 0
HeldFiles = List (List ℕ × List ℕ)

-- the bytes of a name, or None where it isn't there
abbrev pub bytes_of : HeldFiles → List ℕ → Option (List ℕ)
bytes_of files name = lookup (bytes_eq name) files

-- the bytes of a name, or no bytes where it isn't there
abbrev pub bytes_or_none : HeldFiles → List ℕ → List ℕ
bytes_or_none files name = unwrap_or (bytes_of files name) []

-- the files of a map from names to bytes
abbrev pub held_of : List (String Global × Vec ℕ Global) → HeldFiles
held_of entries = map (λ e. (string_bytes e.0, e.1.items)) entries

-- the name has these bytes now, and every other name has what it had
pub record HasHeld (old new : HeldFiles) (name bytes : List ℕ) : Type 0 where
  pub here : bytes_of new name ≡ Some bytes
  pub others : (other : List ℕ) → other ≢ name → bytes_of new other ≡ bytes_of old other

-- files of which some readings fail: `fails` has their numbers, from 1; `calls` counts the readings
-- so far, and `faults` those that failed
pub record FailingFiles : Type 0 where
  pub held : HeldFiles
  pub fails : List ℕ
  pub calls : ℕ
  pub faults : ℕ

-- whether the next reading is one of those that are to fail
abbrev pub fails_next : FailingFiles → Bool
fails_next files = list_any (nat_eq (one_more files.calls)) files.fails

-- a reading fails exactly where it is one of those that are to fail, or the name isn't there; else
-- it is a copy of what the name holds
abbrev pub IsReading : Bool → Option (List ℕ) → ℕ → FileRead → Type 0
IsReading true held max read = read ≡ Failed
IsReading false None max read = read ≡ Failed
IsReading false (Some bytes) max read = IsCopy bytes max read

-- how many faults there are after a reading
abbrev pub faults_after : ℕ → FileRead → ℕ
faults_after faults Failed = one_more faults
faults_after faults (Bytes v) = faults
faults_after faults TooLong = faults
faults_after faults Memory = faults

-- a reading counts as one more call, and as one more fault exactly where it failed; the rest stays
abbrev pub after_read : FailingFiles → FileRead → FailingFiles
after_read files read =
    record files { calls = one_more files.calls; faults = faults_after files.faults read }

-- How a run ends before its task begins, and after the run of a script.
use Rattle.std.specs.Prelude.{◌≡◌, ◌⊎◌, ℕ, List, ◌++◌, Option, codes, decimal}
use Rattle.tb_base.specs.declared.status.Status.{Status}
use Rattle.tb_base.specs.declared.status.Status.TheVariants as status
use Rattle.tb_io.specs.Faults.{HasRisen}
use Rattle.tb_io.specs.Taken.{Took, TookPart}
use Rattle.tb_rows.specs.FaultNames.{FaultNameValue}
use Rattle.tb_script.specs.declared.run.RunEnd.{RunEnd}
use Rattle.tb_script.specs.declared.run.RunEnd.TheVariants as run_end
use Rattle.tb_endings.specs.declared.endings.Input.{Input}
use Rattle.tb_endings.specs.declared.endings.Input.TheVariants as input
use Rattle.tb_endings.specs.declared.endings.End.{End}
use Rattle.tb_endings.specs.declared.endings.End.TheVariants as end

-- the name of a file in a last line
abbrev pub input_name : Input → List ℕ
input_name input.Classes = codes "classes"
input_name input.Recodes = codes "recodes"
input_name input.Ptable = codes "ptable"
input_name input.People = codes "people"
input_name input.Dwellings = codes "dwellings"
input_name input.Links = codes "links"
input_name input.Script = codes "script"

-- the status for a file that is too long or refused
abbrev pub input_status : Input → Status
input_status input.Classes = status.Schema
input_status input.Recodes = status.Schema
input_status input.Ptable = status.Perturbation
input_status input.People = status.Microdata
input_status input.Dwellings = status.Units
input_status input.Links = status.Units
input_status input.Script = status.Script

-- the status with which a run ends
abbrev pub status_of : End → Status
status_of end.Usage = status.Usage
status_of (end.TooLong file) = input_status file
status_of (end.Unread file) = status.ReadFault
status_of (end.Refused file name at) = input_status file
status_of (end.BadLine at) = status.Script
status_of end.Memory = status.Memory

-- the line for a file that is refused: the file's name, the number and the word of its first fault,
-- and the number of the record
abbrev pub fault_line : List ℕ → FaultNameValue → ℕ → List ℕ
fault_line file name at =
    codes "fault " ++ file ++ codes " " ++ decimal name.number ++ codes " " ++ name.word
    ++ codes " " ++ decimal at ++ codes "\n"

-- the same of a file that is read
abbrev pub refusal_line : Input → FaultNameValue → ℕ → List ℕ
refusal_line file name at = fault_line (input_name file) name at

-- the last line
abbrev pub last_line : End → List ℕ
last_line end.Usage = codes "fault usage\n"
last_line (end.TooLong file) = codes "fault " ++ input_name file ++ codes " TooLong\n"
last_line (end.Unread file) = codes "fault read " ++ input_name file ++ codes "\n"
last_line (end.Refused file name at) = refusal_line file name at
last_line (end.BadLine at) = codes "fault script " ++ decimal at ++ codes "\n"
last_line end.Memory = codes "fault memory\n"

-- a run that ended with a status wrote this line: it was taken, with the line's own status, or,
-- where a write failed, a beginning of it
abbrev pub IsLineWritten : Status → List ℕ → Status → (faults faults' : ℕ)
    → (taken taken' : Option (List ℕ)) → Type 0
IsLineWritten own line s faults faults' taken taken' =
    ((s ≡ own) × Took taken taken' line)
    ⊎ ((s ≡ status.WriteFault) × HasRisen faults faults' × TookPart taken taken' line)

-- a run ended so: its last line was taken, or, where a write failed, a beginning of it
abbrev pub IsEnded : End → Status → (faults faults' : ℕ) → (taken taken' : Option (List ℕ)) → Type 0
IsEnded e = IsLineWritten (status_of e) (last_line e)

-- the run of a script ended so, and then the whole run with this status: nothing more was written,
-- but for the last line where memory ran out
abbrev pub IsRunEnded : RunEnd → Status → (faults faults' : ℕ) → (taken taken' : Option (List ℕ))
    → Type 0
IsRunEnded run_end.Done s faults faults' taken taken' =
    (s ≡ status.Done) × (faults' ≡ faults) × (taken' ≡ taken)
IsRunEnded run_end.WriteFault s faults faults' taken taken' =
    (s ≡ status.WriteFault) × (faults' ≡ faults) × (taken' ≡ taken)
IsRunEnded run_end.Memory s faults faults' taken taken' =
    IsEnded end.Memory s faults faults' taken taken'

-- What is written for a script with a journal, and what is left of that.
use Rattle.std.specs.Prelude.{◌≡◌, ◌⊎◌, ℕ, List, Bool, false, Option, option_map, codes}
use Rattle.tb_base.specs.declared.status.Status.{Status}
use Rattle.tb_base.specs.declared.status.Status.TheVariants as status
use Rattle.tb_disk.specs.Images.{WhereTold}
use Rattle.tb_io.specs.Faults.{HasRisen}
use Rattle.tb_keep.specs.JournalRuns.{AreLinesKept, IsJournalFault, JournalRun, after_playing}
use Rattle.tb_keep.specs.JournalRuns.{seen_of}
use Rattle.tb_keep.specs.KeptRuns.{IsKeptReply}
use Rattle.tb_keep.specs.Playing.{CanAllFollow}
use Rattle.tb_keep.specs.Seen.{IsAsItWas, StandsAsBefore}
use Rattle.tb_keep.specs.declared.recovery.JournalFault.{JournalFault}
use Rattle.tb_keep.specs.declared.recovery.JournalFault.TheVariants as journal_fault
use Rattle.tb_lines.specs.Outputs.{AreReplies, ReplyValue}
use Rattle.tb_release.specs.declared.edits.Edit.{Edit}
use Rattle.tb_rows.specs.FaultNames.{FaultNameValue}
use Rattle.tb_script.specs.Scripts.{ScriptValue}
use Rattle.tb_script.specs.declared.run.RunEnd.TheVariants as run_end
use Rattle.tb_serve.specs.Serves.{IsEnded, Output}
use Rattle.tb_top.specs.Asking.{CensusValue, base_of}
use Rattle.tb_endings.specs.Endings.{fault_line, last_line}
use Rattle.tb_endings.specs.declared.endings.End.TheVariants as end

-- what is seen of a disk: what each name had before it was attached, where that is told, and what a
-- stop could leave under it; the moment before the call; whether it is attached at the end, and
-- what a read then gives, where that is told; what a stop then may leave, and what one since a
-- moment may have left; and its count of faults, before and after
pub record DiskSeen : Type 1 where
  pub named : Option (List ℕ → List ℕ)
  pub could_leave : List ℕ → List ℕ → Type 0
  pub moment : ℕ
  pub attached : Bool
  pub content : Option (List ℕ)
  pub may_leave : List ℕ → Type 0
  pub left_since : ℕ → List ℕ → Type 0
  pub faults : ℕ
  pub faults_after : ℕ

-- the same of a disk by its ghost members, before and after a call
abbrev pub disk_seen : {D : Type 0} → (D → Option (List ℕ → List ℕ))
    → (D → List ℕ → List ℕ → Type 0) → (D → Bool) → (D → Option (List ℕ))
    → (D → List ℕ → Type 0) → (D → ℕ) → (D → ℕ → List ℕ → Type 0) → (D → ℕ) → D → D → DiskSeen
disk_seen named could_leave attached content may_leave moment left_since faults disk disk' = record {
  named = named disk;
  could_leave = could_leave disk;
  moment = moment disk;
  attached = attached disk';
  content = content disk';
  may_leave = may_leave disk';
  left_since = left_since disk';
  faults = faults disk;
  faults_after = faults disk';
}

-- it was left alone
abbrev pub IsStill : DiskSeen → Type 0
IsStill disk = (disk.attached ≡ false) × (disk.faults_after ≡ disk.faults)

-- its count rose
abbrev pub HasFailed : DiskSeen → Type 0
HasFailed disk = HasRisen disk.faults disk.faults_after

-- the number and the word of a journal's fault, and the number of the record
abbrev pub journal_fault_name : JournalFault → FaultNameValue
journal_fault_name journal_fault.NotJournal = record { number = 1; word = codes "NotJournal" }
journal_fault_name (journal_fault.BadRecord r) = record { number = 2; word = codes "BadRecord" }
journal_fault_name (journal_fault.DoesNotFollow r) =
    record { number = 3; word = codes "DoesNotFollow" }

abbrev pub journal_fault_at : JournalFault → ℕ
journal_fault_at journal_fault.NotJournal = 0
journal_fault_at (journal_fault.BadRecord r) = r
journal_fault_at (journal_fault.DoesNotFollow r) = r

-- the last line where a journal's file is refused, and where the disk failed
abbrev pub journal_line : JournalFault → List ℕ
journal_line fault =
    fault_line (codes "journal") (journal_fault_name fault) (journal_fault_at fault)

abbrev pub disk_line : List ℕ
disk_line = codes "fault disk\n"

-- what is seen of a run with a journal under this name
abbrev pub kept_seen : DiskSeen → (journal : List ℕ) → (steps steps' : ℕ) → Output → JournalRun
kept_seen disk journal steps steps' out = record {
  content = option_map (λ named. named journal) disk.named;
  content_after = disk.content;
  moment = disk.moment;
  could_leave = disk.could_leave journal;
  may_leave = disk.may_leave;
  left_since = disk.left_since;
  faults = disk.faults;
  faults_after = disk.faults_after;
  steps = steps;
  steps_after = steps';
  taken = out.before;
  taken_after = out.after;
}

-- a text is the last line of a run whose journal's file is refused, for this fault, and is left as
-- it was, or couldn't be read, since the disk failed, and then each file that a stop in the run
-- left stands as one that a stop before it could leave; and that is its status
abbrev pub IsKeepLine : CensusValue → JournalRun → Status → List ℕ → Type 0
IsKeepLine census saw s text =
    ((fault : JournalFault)
    × WhereTold saw.content (λ file.
    IsJournalFault census.setup (base_of census) file fault)
    × IsAsItWas (seen_of saw) × (s ≡ status.Journal) × (text ≡ journal_line fault))
    ⊎ (HasRisen saw.faults saw.faults_after × StandsAsBefore (seen_of saw)
    × (s ≡ status.DiskFault) × (text ≡ disk_line))

-- these are replies to the lines of a script, from some batches on that can all follow
abbrev pub AreKeepReplies : CensusValue → ScriptValue → List ReplyValue → Type 0
AreKeepReplies census script replies =
    (batches : List (List Edit)) × (moment : ℕ) × (faults : ℕ)
    × CanAllFollow census.setup (base_of census) batches
    × AreReplies (IsKeptReply census.setup (base_of census))
    (after_playing (base_of census) batches moment faults) script.lines replies

-- The lines of a script were answered from the recovered batches on: all of them, or, where a write
-- failed, up to the one whose reply was cut short. Each file that a stop now may leave stands for
-- the batches to which these replies led.
abbrev pub AreKeepLinesAnswered : CensusValue → ScriptValue → Status → Output → JournalRun → Type 0
AreKeepLinesAnswered census script s out saw =
    ((s ≡ status.Done)
    × AreLinesKept census.setup (base_of census) script.lines run_end.Done saw)
    ⊎ ((s ≡ status.WriteFault) × HasRisen out.faults out.faults_after
    × AreLinesKept census.setup (base_of census) script.lines run_end.WriteFault saw)

-- What became of a script with a journal, once its file was to be attached: its lines were
-- answered; or none was, since memory ran out, and then each file that a stop in the run left
-- stands as one that a stop before it could leave, or since the file is refused, or the disk failed.
abbrev pub IsKeepRun : CensusValue → ScriptValue → Status → Output → JournalRun → Type 0
IsKeepRun census script s out saw =
    AreKeepLinesAnswered census script s out saw
    ⊎ ((saw.steps_after ≡ saw.steps)
    × ((StandsAsBefore (seen_of saw) × IsEnded (last_line end.Memory) status.Memory out s)
    ⊎ ((final : Status) × (text : List ℕ) × IsKeepLine census saw final text
    × IsEnded text final out s)))

-- A script with a journal was answered: memory was refused before the file was to be attached, and
-- the disk was left alone; or it went as told there.
abbrev pub IsKeepAnswered : CensusValue → ScriptValue → (journal : List ℕ) → Status → Output
    → DiskSeen → (steps steps' : ℕ) → Type 0
IsKeepAnswered census script journal s out disk steps steps' =
    ((steps' ≡ steps) × IsStill disk × IsEnded (last_line end.Memory) status.Memory out s)
    ⊎ IsKeepRun census script s out (kept_seen disk journal steps steps' out)

-- A script whose custodian keeps a journal: its batches are published first, and each further one
-- is written into it ahead.
use Rattle.std.specs.Prelude.{◌≡◌, ◌≤◌, ◌+◌, ℕ, List, length, take, drop, Option, None}
use Rattle.std.specs.List.{AllByRecursion}
use Rattle.tb_ahead.specs.Keeping.{KeptState}
use Rattle.tb_ahead.specs.Publishing.{after_seeing}
use Rattle.tb_disk.specs.Images.{WhereTold}
use Rattle.tb_journal.specs.Opening.{IsForeign, header, opened_file}
use Rattle.tb_journal.specs.Reading.{IsBad}
use Rattle.tb_journal_file.specs.Files.{EachStandsBetween, EachStandsFor, IsFileOf, all_of}
use Rattle.tb_keep.specs.Chains.{batches_of}
use Rattle.tb_keep.specs.KeptRuns.{IsKeptRun}
use Rattle.tb_keep.specs.Playing.{CanAllFollow, DoesNotFollow, HasRecord, IsNextRecord}
use Rattle.tb_keep.specs.Playing.{LiesBehind}
use Rattle.tb_keep.specs.Seen.{IsAsItWas, JournalSeen, StandsAsBefore, StandsAsBeforeUntil}
use Rattle.tb_keep.specs.declared.recovery.JournalFault.{JournalFault}
use Rattle.tb_keep.specs.declared.recovery.JournalFault.TheVariants as journal_fault
use Rattle.tb_keep.specs.declared.journal_run.KeepEnd.{KeepEnd}
use Rattle.tb_keep.specs.declared.journal_run.KeepEnd.TheVariants as keep_end
use Rattle.tb_lines.specs.Outputs.{charged}
use Rattle.tb_model.specs.Releases.{ReleaseValue}
use Rattle.tb_model.specs.Setups.{SetupValue}
use Rattle.tb_release.specs.Chains.{release_after}
use Rattle.tb_release.specs.declared.edits.Edit.{Edit}
use Rattle.tb_script.specs.Scripts.{ScriptLine}
use Rattle.tb_script.specs.declared.run.RunEnd.{RunEnd}
use Rattle.tb_script.specs.declared.run.RunEnd.TheVariants as run_end

-- batches are those of a journal's file, where what it had is told: it stands for just these, each
-- of which can have a record, and behind them lies a gate that isn't open; and each fits the setup
-- and can follow
pub record AreRecovered (setup : SetupValue) (base : ReleaseValue) (content : Option (List ℕ))
    (batches : List (List Edit)) : Type 0 where
  pub all : WhereTold content (λ file. IsFileOf batches (opened_file file))
  pub each : WhereTold content (λ _. AllByRecursion HasRecord batches)
  pub follow : CanAllFollow setup base batches

-- where a custodian stands that has published them, with a live journal, and holds no edits: from
-- this moment on it is watched what a stop leaves
abbrev pub after_playing : ReleaseValue → List (List Edit) → (moment faults : ℕ) → KeptState
after_playing base batches moment faults = record {
  state = after_seeing (batches_of base batches);
  batches = batches;
  further = None;
  faults = faults;
  since = record { moment = moment; batches = batches };
}

-- the record of number r, from 1, is at this place of a journal's file: before it are these
-- batches, which can all follow
pub record ComesAfter (setup : SetupValue) (base : ReleaseValue) (batches : List (List Edit))
    (file : List ℕ) (place r : ℕ) : Type 0 where
  pub begins : take 8 file ≡ header
  pub behind : LiesBehind file place batches
  pub follow : CanAllFollow setup base batches
  pub number : r ≡ length batches + 1

-- the first fault of a journal's file: it is of another kind; or a record of it, once it was
-- opened, is none or doesn't follow
abbrev pub IsJournalFault : SetupValue → ReleaseValue → List ℕ → JournalFault → Type 0
IsJournalFault setup base file journal_fault.NotJournal = IsForeign file
IsJournalFault setup base file (journal_fault.BadRecord r) =
    (batches : List (List Edit)) × (place : ℕ)
    × ComesAfter setup base batches (opened_file file) place r
    × IsBad (drop place (opened_file file))
IsJournalFault setup base file (journal_fault.DoesNotFollow r) =
    (batches : List (List Edit)) × (place : ℕ) × (edits : List Edit)
    × ComesAfter setup base batches (opened_file file) place r
    × IsNextRecord (opened_file file) place edits
    × DoesNotFollow setup (release_after base (batches_of base batches)) edits

-- what is seen of a run with a journal: what its file had, and what a read gives at the end, where
-- they are told; the moment at which it began, and what a stop then could leave; what a stop at its
-- end may leave, and what one since a moment may have left; and before and after it the disk's
-- count of faults, how far the counter of steps has come, and the bytes that the sink took, where
-- it tells them
pub record JournalRun : Type 1 where
  pub content : Option (List ℕ)
  pub content_after : Option (List ℕ)
  pub moment : ℕ
  pub could_leave : List ℕ → Type 0
  pub may_leave : List ℕ → Type 0
  pub left_since : ℕ → List ℕ → Type 0
  pub faults : ℕ
  pub faults_after : ℕ
  pub steps : ℕ
  pub steps_after : ℕ
  pub taken : Option (List ℕ)
  pub taken_after : Option (List ℕ)

-- what is seen of its file
abbrev pub seen_of : JournalRun → JournalSeen
seen_of saw = record {
  content = saw.content;
  content_after = saw.content_after;
  moment = saw.moment;
  could_leave = saw.could_leave;
  may_leave = saw.may_leave;
  left_since = saw.left_since;
  faults = saw.faults;
  faults_after = saw.faults_after;
}

-- The lines of a script were answered, by how that ended, from where the custodian stood first.
-- Each file that a stop now may leave stands for the batches to which the replies led, and at most
-- one further batch; and what a stop since then may have left, for a beginning of them that has all
-- that he had then.
pub record AreKeptFrom (first : KeptState) (setup : SetupValue) (base : ReleaseValue)
    (lines : List ScriptLine) (end : RunEnd) (saw : JournalRun) : Type 0 where
  pub last : KeptState
  pub run : IsKeptRun setup base lines end (charged first saw.steps) (charged last saw.steps_after)
      saw.taken saw.taken_after
  pub left : EachStandsFor saw.may_leave last.batches last.further
  pub ever : WhereTold saw.content_after
      (λ _. EachStandsBetween saw.left_since first.since (all_of last.batches last.further))
  pub counted : last.faults ≡ saw.faults_after

-- And first it had published the batches of the journal's file, and the journal was live. Until
-- then each stop left a file that stands as one that a stop at the beginning could leave.
pub record AreLinesKept (setup : SetupValue) (base : ReleaseValue) (lines : List ScriptLine)
    (end : RunEnd) (saw : JournalRun) : Type 0 where
  pub batches : List (List Edit)
  pub recovered : AreRecovered setup base saw.content batches
  pub first_moment : ℕ
  pub first_faults : ℕ
  pub since : saw.faults ≤ first_faults
  pub until : StandsAsBeforeUntil first_moment (seen_of saw)
  pub kept : AreKeptFrom (after_playing base batches first_moment first_faults) setup base lines
      end saw

-- no line was answered
abbrev pub IsNoneAnswered : JournalRun → Type 0
IsNoneAnswered saw = (saw.taken_after ≡ saw.taken) × (saw.steps_after ≡ saw.steps)

-- How a script with a journal was run: its lines were answered; or none was, since memory ran out
-- or the journal's file is refused, and then its file is left as it was, or since the disk failed,
-- and then no stop left one that stands for anything else.
abbrev pub IsJournalRun : SetupValue → ReleaseValue → List ScriptLine → KeepEnd → JournalRun
    → Type 0
IsJournalRun setup base lines (keep_end.Ran run_end.Done) saw =
    AreLinesKept setup base lines run_end.Done saw
IsJournalRun setup base lines (keep_end.Ran run_end.WriteFault) saw =
    AreLinesKept setup base lines run_end.WriteFault saw
IsJournalRun setup base lines (keep_end.Ran run_end.Memory) saw =
    IsNoneAnswered saw × IsAsItWas (seen_of saw)
IsJournalRun setup base lines (keep_end.Refused fault) saw =
    IsNoneAnswered saw × IsAsItWas (seen_of saw)
    × WhereTold saw.content (λ file. IsJournalFault setup base file fault)
IsJournalRun setup base lines keep_end.DiskFault saw =
    IsNoneAnswered saw × StandsAsBefore (seen_of saw)

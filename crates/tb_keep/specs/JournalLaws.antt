-- A journal's file is recovered or refused, and in one way.
use Rattle.std.specs.Prelude.{◌≡◌, ℕ, List, Some}
use Rattle.tb_keep.specs.JournalRuns.{AreRecovered, IsJournalFault}
use Rattle.tb_keep.specs.declared.recovery.JournalFault.{JournalFault}
use Rattle.tb_model.specs.Releases.{ReleaseValue}
use Rattle.tb_model.specs.Setups.{SetupValue}
use Rattle.tb_release.specs.declared.edits.Edit.{Edit}

-- a file whose batches are recovered has no fault, one that has a fault has one first fault alone,
-- and the recovered batches are those of one list
pub record HasOneOutcome (setup : SetupValue) (base : ReleaseValue) (file : List ℕ)
    : Type 0 where
  pub not_both : (batches : List (List Edit)) (fault : JournalFault)
      → AreRecovered setup base (Some file) batches → ¬ IsJournalFault setup base file fault
  pub one_fault : (some other : JournalFault)
      → IsJournalFault setup base file some → IsJournalFault setup base file other → some ≡ other
  pub one_list : (some others : List (List Edit))
      → AreRecovered setup base (Some file) some → AreRecovered setup base (Some file) others
      → some ≡ others

-- every file, over every setup and release 0
abbrev pub IsRecoveredOrRefused : Type 0
IsRecoveredOrRefused =
    (setup : SetupValue) (base : ReleaseValue) (file : List ℕ) → HasOneOutcome setup base file

-- A journal that was to be recovered: whether it was, and what is left of its file.
use Rattle.std.specs.Prelude.{◌≡◌, List, None}
use Rattle.tb_board.specs.Custodians.{CustodianValue}
use Rattle.tb_disk.specs.Images.{WhereTold}
use Rattle.tb_io.specs.Faults.{HasRisen}
use Rattle.tb_journal.specs.States.{JournalState}
use Rattle.tb_journal_file.specs.Files.{EachStandsFor}
use Rattle.tb_keep.specs.Chains.{batches_of}
use Rattle.tb_keep.specs.JournalRuns.{AreRecovered, IsJournalFault}
use Rattle.tb_keep.specs.Seen.{IsAsItWas, JournalSeen, StandsAsBefore}
use Rattle.tb_keep.specs.declared.recovery.Recovery.{Recovery}
use Rattle.tb_keep.specs.declared.recovery.Recovery.TheVariants as recovery
use Rattle.tb_model.specs.Releases.{ReleaseValue}
use Rattle.tb_model.specs.Setups.{SetupValue}
use Rattle.tb_release.specs.declared.edits.Edit.{Edit}

-- all batches of the file were published by a custodian, who stands at the chain to which they
-- lead; each file that a stop now may leave stands for them
pub record HasRecovered (setup : SetupValue) (base : ReleaseValue) (saw : JournalSeen)
    (custodian : CustodianValue) : Type 0 where
  pub batches : List (List Edit)
  pub recovered : AreRecovered setup base saw.content batches
  pub start : custodian.writer.start.base ≡ base
  pub chain : custodian.writer.list ≡ batches_of base batches
  pub left : EachStandsFor saw.may_leave batches None
  pub same : IsAsItWas saw

-- this is true of the journal, if it was recovered
abbrev pub IfRecovered : Recovery → (JournalState → Type 0) → Type 0
IfRecovered (recovery.Recovered journal) P = P journal
IfRecovered (recovery.Refused fault) P = Unit {0}
IfRecovered recovery.DiskFault P = Unit {0}
IfRecovered recovery.Memory P = Unit {0}

-- what became of a journal: it was recovered; or its file is refused, or memory ran out, and the
-- file is left as it was; or the disk failed
abbrev pub IsRecovery : SetupValue → ReleaseValue → JournalSeen → CustodianValue → Recovery → Type 0
IsRecovery setup base saw custodian (recovery.Recovered journal) =
    HasRecovered setup base saw custodian
IsRecovery setup base saw custodian (recovery.Refused fault) =
    IsAsItWas saw × WhereTold saw.content (λ file. IsJournalFault setup base file fault)
IsRecovery setup base saw custodian recovery.DiskFault =
    HasRisen saw.faults saw.faults_after × StandsAsBefore saw
IsRecovery setup base saw custodian recovery.Memory = IsAsItWas saw

-- The batches that are read from a journal.
use Rattle.std.specs.Prelude.{◌≡◌, ◌++◌, ◌∷◌, ℕ, List, [], take, Option, None}
use Rattle.tb_disk.specs.Images.{WhereTold}
use Rattle.tb_journal.specs.Opening.{header}
use Rattle.tb_journal.specs.Records.{payloads_before}
use Rattle.tb_journal.specs.States.{JournalState}
use Rattle.tb_journal.specs.declared.recovered.Recovered.{Recovered}
use Rattle.tb_journal.specs.declared.recovered.Recovered.TheVariants.{Batch, BadRecord, DiskFault}
use Rattle.tb_journal.specs.declared.recovered.Recovered.TheVariants.{End, Memory}
use Rattle.tb_journal_file.specs.Files.{EachStandsFor, payloads_of}
use Rattle.tb_release.specs.declared.edits.Edit.{Edit}

-- a journal read these batches of a file so far, which begins with a journal's first bytes: its
-- records before the next gate are theirs
pub record AreRead (batches : List (List Edit)) (journal : JournalState) (file : List ℕ)
    : Type 0 where
  pub begins : take 8 file ≡ header
  pub before : payloads_before journal.place file ≡ payloads_of batches

-- which batches were read once one more was asked for: a batch that came too, and else the same; at
-- the end each file that a stop may leave stands for them
abbrev pub ReadOn : List (List Edit) → Option (List ℕ) → (List ℕ → Type 0) → JournalState
    → Recovered → Type 0
ReadOn batches content may_leave journal (Batch edits) =
    WhereTold content (AreRead (batches ++ edits ∷ []) journal)
ReadOn batches content may_leave journal End =
    WhereTold content (AreRead batches journal) × EachStandsFor may_leave batches None
ReadOn batches content may_leave journal (BadRecord r) = WhereTold content (AreRead batches journal)
ReadOn batches content may_leave journal DiskFault = WhereTold content (AreRead batches journal)
ReadOn batches content may_leave journal Memory = WhereTold content (AreRead batches journal)

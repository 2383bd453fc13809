-- A journal beside a disk in memory.
use Rattle.std.specs.Prelude.{◌≡◌, ◌≤◌, ℕ, true}
use Rattle.tb_mem_disk.specs.HeldDisk.{HeldDisk}
use Rattle.tb_mem_disk.specs.Writes.{bytes_of}
use Rattle.tb_journal.specs.States.{JournalState}
use Rattle.tb_journal.specs.Stops.{IsOn}

-- the disk was attached, the journal is on its file, and read at most so many batches
pub record IsReady (disk : HeldDisk) (journal : JournalState) (most : ℕ) : Type 0 where
  pub attached : disk.attached ≡ true
  pub on : IsOn (bytes_of disk.file) (λ image. image ≡ bytes_of disk.file) journal
  pub few : journal.read ≤ most

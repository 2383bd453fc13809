-- A disk in memory, and what each of its calls leaves.
use Rattle.std.specs.Prelude.{◌≡◌, ℕ, Bool, true, List, [], ◌∷◌, ◌++◌, length, take, drop}
use Rattle.tb_disk.specs.declared.disk.Done.{Done}
use Rattle.tb_disk.specs.declared.disk.Done.TheVariants.{All, Failed}
use Rattle.tb_disk.specs.declared.disk.Size.{Size}
use Rattle.tb_disk.specs.declared.disk.Size.TheVariants as size
use Rattle.tb_mem_disk.specs.declared.call.Call.TheVariants as call
use Rattle.tb_mem_disk.specs.Calls.{CallLog, IsCalled}
use Rattle.tb_mem_disk.specs.Writes.{HeldFile, bytes_of}

-- whether the file was attached, the file, and the record of the calls
pub record HeldDisk : Type 0 where
  pub attached : Bool
  pub file : HeldFile
  pub log : CallLog

-- the first call attaches the file
abbrev pub IsAttached : Done → HeldDisk → HeldDisk → Type 0
IsAttached All old new =
    IsCalled call.Attach All old.log new.log × (new ≡ record old { attached = true; log = new.log })
IsAttached Failed old new =
    IsCalled call.Attach Failed old.log new.log × (new ≡ record old { log = new.log })

-- the size is told, and nothing else changes
abbrev pub IsSized : Size → HeldDisk → HeldDisk → Type 0
IsSized (size.Is n) old new =
    IsCalled call.Size All old.log new.log × (new ≡ record old { log = new.log })
    × (n ≡ length (bytes_of old.file))
IsSized size.Failed old new =
    IsCalled call.Size Failed old.log new.log × (new ≡ record old { log = new.log })

-- so many bytes are read, or what they are read into stays as it was
abbrev pub IsRead : Done → ℕ → List ℕ → List ℕ → HeldDisk → HeldDisk → Type 0
IsRead All at before after old new =
    IsCalled call.Read All old.log new.log × (new ≡ record old { log = new.log })
    × (after ≡ take (length before) (drop at (bytes_of old.file)))
IsRead Failed at before after old new =
    IsCalled call.Read Failed old.log new.log × (new ≡ record old { log = new.log })
    × (after ≡ before)

-- one more write, or none
abbrev pub IsWrite : Done → ℕ → List ℕ → HeldDisk → HeldDisk → Type 0
IsWrite All at bytes old new =
    IsCalled call.Write All old.log new.log
    × (new ≡ record old {
      file = record old.file { writes = old.file.writes ++ (at, bytes) ∷ [] };
      log = new.log;
    })
IsWrite Failed at bytes old new =
    IsCalled call.Write Failed old.log new.log × (new ≡ record old { log = new.log })

-- nothing but the record of calls changes
abbrev pub IsSynced : Done → HeldDisk → HeldDisk → Type 0
IsSynced result old new =
    IsCalled call.Sync result old.log new.log × (new ≡ record old { log = new.log })

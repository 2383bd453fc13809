-- The record of a disk's calls, and which of them fail.
use Rattle.std.specs.Prelude.{◌≡◌, ◌⊎◌, ℕ, Bool, true, false, List, [], ◌∷◌, ◌++◌}
use Rattle.std.specs.Bool.{nat_eq}
use Rattle.std.specs.List.{list_any}
use Rattle.tb_io.specs.Faults.{one_more}
use Rattle.tb_disk.specs.declared.disk.Done.{Done}
use Rattle.tb_disk.specs.declared.disk.Done.TheVariants.{All, Failed}
use Rattle.tb_mem_disk.specs.declared.call.Call.{Call}
use Rattle.tb_mem_disk.specs.declared.call.Call.TheVariants.{Attach, Size, Read, Write, Sync}

-- the calls that were recorded, the numbers of those that are to fail, how many were made, and how
-- many failed
pub record CallLog : Type 0 where
  pub calls : List Call
  pub fails : List ℕ
  pub made : ℕ
  pub faults : ℕ

-- whether the next call is to fail
abbrev pub fails_next : CallLog → Bool
fails_next log = list_any (nat_eq (one_more log.made)) log.fails

-- after one more call
abbrev pub called : Call → CallLog → CallLog
called call log = record log { calls = log.calls ++ call ∷ []; made = one_more log.made }

-- after one that failed
abbrev pub failed : Call → CallLog → CallLog
failed call log = record log {
  calls = log.calls ++ call ∷ [];
  made = one_more log.made;
  faults = one_more log.faults;
}

-- after one that was out of memory: it failed, and isn't recorded
abbrev pub refused : CallLog → CallLog
refused log = record log { made = one_more log.made; faults = one_more log.faults }

-- a call fails where it is to fail, or is out of memory, and else it is done
abbrev pub IsCalled : Call → Done → CallLog → CallLog → Type 0
IsCalled call All old new = (fails_next old ≡ false) × (new ≡ called call old)
IsCalled call Failed old new =
    ((fails_next old ≡ true) × (new ≡ failed call old)) ⊎ (new ≡ refused old)

abbrev pub is_sync : Call → Bool
is_sync Attach = false
is_sync Size = false
is_sync Read = false
is_sync Write = false
is_sync Sync = true

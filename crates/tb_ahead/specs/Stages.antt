-- What the functions below `answer_ahead` say.
use Rattle.std.specs.Prelude.{◌≡◌, ◌⊎◌, ◌<◌, ◌≤◌, ℕ, Bool, true, false, List, length}
use Rattle.tb_io.specs.Faults.{HasRisen}
use Rattle.tb_release.specs.declared.edits.Edit.{Edit}
use Rattle.tb_ahead.specs.Puts.{IsAdded, MayBeAdded, FileStands, StaysAsItWas}
use Rattle.tb_ahead.specs.declared.ahead.Put.{Put}
use Rattle.tb_ahead.specs.declared.ahead.Put.TheVariants as put

-- edits were kept; or they weren't, since nothing is put any more or the disk failed; or there was
-- no memory for them
abbrev pub IsKeptBy : List Edit → (old new : FileStands) → (live live' : Bool)
    → (faults faults' : ℕ) → Put → Type 0
IsKeptBy edits old new live live' faults faults' put.Kept =
    (live ≡ true) × (live' ≡ true) × (faults ≤ faults') × IsAdded edits old new
IsKeptBy edits old new live live' faults faults' put.DiskFault =
    (live ≡ false) × (live' ≡ live) × (faults' ≡ faults) × StaysAsItWas old new
    ⊎ (live ≡ true) × (live' ≡ false) × HasRisen faults faults' × (faults ≤ faults')
    × MayBeAdded edits old new
IsKeptBy edits old new live live' faults faults' put.Memory =
    (live' ≡ live) × (faults ≤ faults') × StaysAsItWas old new

-- where edits are held still, nothing is put any more
abbrev pub IsClosedUnlessNone : List Edit → (old new : FileStands) → (live live' : Bool) → Type 0
IsClosedUnlessNone held old new live live' =
    (length held ≤ 0) × (live' ≡ live) × StaysAsItWas old new
    ⊎ (0 < length held) × (live' ≡ false) × StaysAsItWas old new

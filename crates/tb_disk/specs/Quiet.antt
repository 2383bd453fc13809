-- Calls that change nothing on the disk.
use Rattle.std.specs.Prelude.{◌≡◌, ℕ, List, Option}
use Rattle.tb_disk.specs.Images.{Fewer}
use Rattle.tb_disk.specs.Moments.{KeepsPast, LeavesOnly}

-- a read gives what it gave, and a stop from old to new leaves what one at old might have left
pub record IsQuiet
    {D : Type 0} (content : D → Option (List ℕ)) (may_leave : D → List ℕ → Type 0)
    (moment : D → ℕ) (left_since : D → ℕ → List ℕ → Type 0) (old new : D) : Type 0 where
  pub same : content new ≡ content old
  pub stop : Fewer (may_leave old) (may_leave new)
  pub any_moment : LeavesOnly moment left_since old new (may_leave old)
  pub past : KeepsPast moment left_since old new

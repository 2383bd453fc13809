use Rattle.std.proofs.Common.{◌≡◌, ◌+◌, ℕ, length}
use Rattle.tb_model.specs.Releases.{ReleaseValue}
use Rattle.tb_past.specs.Retreating.{CanRetreat}
use Rattle.tb_past.proofs.Backwards.{IsBackAt}
use Rattle.tb_past.proofs.retreating.retreat.Given as goal

-- the last changes were undone, whatever release the batch follows
abbrev pub invariant-loop-i : goal.invariant-loop-i
invariant-loop-i g l = (release : ReleaseValue) → CanRetreat l.fn.cube l.batch release → (k : ℕ) → k + l.i ≡ length l.batch.changes
    → IsBackAt l.fn.cube release l.batch.changes k l.cube

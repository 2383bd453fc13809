use Rattle.std.proofs.Common.{drop}
use Rattle.tb_model.specs.Releases.{ReleaseValue}
use Rattle.tb_release.specs.Replays.{CanReplay}
use Rattle.tb_release.proofs.Replayed.{IsHalfway}
use Rattle.tb_release.proofs.replaying.make_all.Given as goal

-- the changes so far were made, whatever release it was
abbrev pub invariant-loop-change : goal.invariant-loop-change
invariant-loop-change g l = (release : ReleaseValue) → CanReplay release l.batch l.stamp l.fn.register
    → IsHalfway release l.batch (drop l.change-index l.batch.changes) l.register

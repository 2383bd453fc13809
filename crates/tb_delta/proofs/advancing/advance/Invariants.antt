use Rattle.std.proofs.Common.{drop}
use Rattle.tb_model.specs.Releases.{ReleaseValue}
use Rattle.tb_delta.specs.Advancing.{CanAdvance}
use Rattle.tb_delta.proofs.UnderWay.{IsUnderWay}
use Rattle.tb_delta.proofs.advancing.advance.Given as goal

-- the changes so far were made, whatever release the cube was of
abbrev pub invariant-loop-change : goal.invariant-loop-change
invariant-loop-change g l = (release : ReleaseValue) → CanAdvance l.fn.cube l.batch release
    → IsUnderWay l.fn.cube release l.batch (drop l.change-index l.batch.changes) l.cube

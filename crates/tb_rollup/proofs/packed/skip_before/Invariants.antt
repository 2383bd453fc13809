use Rattle.std.proofs.Common.{◌≡◌, length}
use Rattle.tb_rollup.specs.Rolling.{kept_after}
use Rattle.tb_rollup.proofs.packed.skip_before.Given as goal

abbrev pub invariant-loop-left : goal.invariant-loop-left
invariant-loop-left l = kept_after l.end l.left ≡ kept_after l.end l.kept

abbrev pub decreases-loop-left : goal.decreases-loop-left
decreases-loop-left l = length l.left

use Rattle.std.proofs.Common.{◌≡◌, length}
use Rattle.tb_revise.specs.Faults.{sets_twice}
use Rattle.tb_revise.proofs.meaning.sets_twice.Given as goal

abbrev pub invariant-loop-left : goal.invariant-loop-left
invariant-loop-left l = sets_twice l.left ≡ sets_twice l.sets

abbrev pub decreases-loop-left : goal.decreases-loop-left
decreases-loop-left l = length l.left

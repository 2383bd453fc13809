use Rattle.std.proofs.Common.{◌≡◌, length}
use Rattle.tb_spelling.specs.Payloads.{variables_set}
use Rattle.tb_spelling.specs.Reading.{are_distinct}
use Rattle.tb_spelling.proofs.read.set_once.Given as goal

abbrev pub invariant-loop-left : goal.invariant-loop-left
invariant-loop-left l = are_distinct (variables_set l.left) ≡ are_distinct (variables_set l.sets)

abbrev pub decreases-loop-left : goal.decreases-loop-left
decreases-loop-left l = length l.left

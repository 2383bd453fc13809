use Rattle.std.proofs.Common.{◌≡◌, ◌%◌}
use Rattle.tb_base.specs.Parts.{Part, part, part_at, modulus}
use Rattle.tb_rollup.specs.Rolling.{run_sum}
use Rattle.tb_rollup.proofs.runs.sum_of.Given as goal

abbrev pub invariant-loop-r : goal.invariant-loop-r
invariant-loop-r l = (p : Part) → part p l.sum % modulus p ≡ run_sum (part_at p l.all) l.from l.r % modulus p

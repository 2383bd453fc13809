use Rattle.std.proofs.Common.{◌≡◌}
use Rattle.tb_model.specs.Schemas.{shape_of}
use Rattle.tb_follow_tests.proofs.numbers.wrong_row.Given as goal

-- the follower is over the schema's shape
abbrev pub invariant-loop-i : goal.invariant-loop-i
invariant-loop-i l = l.follower.chain.shape ≡ shape_of l.schema

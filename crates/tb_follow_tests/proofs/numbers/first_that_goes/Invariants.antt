use Rattle.std.proofs.Common.{◌≡◌}
use Rattle.tb_model.specs.Schemas.{shape_of}
use Rattle.tb_follow_tests.proofs.numbers.first_that_goes.Given as goal

-- the follower is over the schema's shape
abbrev pub invariant-loop-number : goal.invariant-loop-number
invariant-loop-number l = l.follower.chain.shape ≡ shape_of l.schema

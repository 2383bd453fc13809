use Rattle.std.proofs.Common.{◌≡◌}
use Rattle.tb_model.specs.Schemas.{shape_of}
use Rattle.tb_follow_tests.proofs.orders.wrong_over.Given as goal

-- the follower is over the schema's shape
abbrev pub invariant-loop-case : goal.invariant-loop-case
invariant-loop-case l = l.follower.chain.shape ≡ shape_of l.schema

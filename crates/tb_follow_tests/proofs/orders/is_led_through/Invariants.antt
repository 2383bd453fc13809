use Rattle.std.proofs.Common.{◌≡◌}
use Rattle.tb_model.specs.Schemas.{shape_of}
use Rattle.tb_follow_tests.proofs.orders.is_led_through.Given as goal

-- the follower is over the schema's shape
abbrev pub invariant-loop-again : goal.invariant-loop-again
invariant-loop-again l = l.follower.chain.shape ≡ shape_of l.schema

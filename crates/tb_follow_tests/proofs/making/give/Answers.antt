use Rattle.std.proofs.Common.{refl}
use Rattle.tb_follow_tests.proofs.Staying.{shape_stays}
use Rattle.tb_follow_tests.proofs.making.give.Goals as goal

pub returns : goal.returns
returns c = shape_stays c.args.follower.now c.deliver.new.self c.args.message c.deliver.result c.args.follower.now.chain.shape refl c.deliver.ensures.given

use Rattle.std.proofs.Common.{arith}
use Rattle.tb_follow.proofs.Few.{few_wait}
use Rattle.tb_follow.proofs.follower.Follower.waiting.Goals as goal

pub returns-clause-few : goal.returns-clause-few
returns-clause-few c = omega (arith, few_wait _ c.self.invariant)

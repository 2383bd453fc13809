use Rattle.tb_follow.proofs.Few.{few_wait}
use Rattle.tb_follow.proofs.laws.few_wait.Goals as goal

pub returns : goal.returns
returns c = few_wait

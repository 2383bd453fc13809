use Rattle.tb_core.proofs.CountLemmas.{chains_follow}
use Rattle.tb_core.proofs.laws.chains_follow.Goals as goal

pub returns : goal.returns
returns c = chains_follow

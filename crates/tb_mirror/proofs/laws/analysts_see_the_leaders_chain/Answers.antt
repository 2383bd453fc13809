use Rattle.tb_mirror.proofs.Led.{analysts_see}
use Rattle.tb_mirror.proofs.laws.analysts_see_the_leaders_chain.Goals as goal

pub returns : goal.returns
returns c = analysts_see

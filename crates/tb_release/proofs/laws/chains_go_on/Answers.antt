use Rattle.tb_release.proofs.Chained.{chains_go_on}
use Rattle.tb_release.proofs.laws.chains_go_on.Goals as goal

pub returns : goal.returns
returns c = chains_go_on

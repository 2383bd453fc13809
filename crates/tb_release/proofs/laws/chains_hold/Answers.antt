use Rattle.tb_release.proofs.Chained.{chains_hold}
use Rattle.tb_release.proofs.laws.chains_hold.Goals as goal

pub returns : goal.returns
returns c = chains_hold

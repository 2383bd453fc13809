use Rattle.tb_release.proofs.Chained.{chains_split}
use Rattle.tb_release.proofs.laws.chains_split.Goals as goal

pub returns : goal.returns
returns c = chains_split

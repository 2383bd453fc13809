use Rattle.tb_release.proofs.Chained.{keys_stay}
use Rattle.tb_release.proofs.laws.keys_stay.Goals as goal

pub returns : goal.returns
returns c = keys_stay

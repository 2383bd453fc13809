use Rattle.tb_core.proofs.FitLemmas.{asking_is_told}
use Rattle.tb_core.proofs.laws.asking_is_told.Goals as goal

pub returns : goal.returns
returns c = asking_is_told

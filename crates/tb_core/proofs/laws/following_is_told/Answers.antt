use Rattle.tb_core.proofs.FitLemmas.{following_is_told}
use Rattle.tb_core.proofs.laws.following_is_told.Goals as goal

pub returns : goal.returns
returns c = following_is_told

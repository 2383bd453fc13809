use Rattle.tb_release.proofs.FitTests.{fit_is_told}
use Rattle.tb_release.proofs.laws.fit_is_told.Goals as goal

pub returns : goal.returns
returns c = fit_is_told

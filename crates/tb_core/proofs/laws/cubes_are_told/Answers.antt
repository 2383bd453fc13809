use Rattle.tb_core.proofs.FitLemmas.{cubes_are_told}
use Rattle.tb_core.proofs.laws.cubes_are_told.Goals as goal

pub returns : goal.returns
returns c = cubes_are_told

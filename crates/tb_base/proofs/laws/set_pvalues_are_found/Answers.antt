use Rattle.tb_base.proofs.Setting.{set_is_found}
use Rattle.tb_base.proofs.laws.set_pvalues_are_found.Goals as goal

pub returns : goal.returns
returns c = set_is_found

use Rattle.tb_session.proofs.Describing.{descriptions_change_nothing}
use Rattle.tb_session.proofs.laws.descriptions_change_nothing.Goals as goal

pub returns : goal.returns
returns c = descriptions_change_nothing

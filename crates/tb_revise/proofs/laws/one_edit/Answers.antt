use Rattle.tb_revise.proofs.Spelled.{one_edit}
use Rattle.tb_revise.proofs.laws.one_edit.Goals as goal

pub returns : goal.returns
returns c = one_edit

use Rattle.tb_model.proofs.CellKeys.{worlds_show_the_same}
use Rattle.tb_model.proofs.laws.agreeing_worlds_show_the_same.Goals as goal

pub returns : goal.returns
returns c = worlds_show_the_same

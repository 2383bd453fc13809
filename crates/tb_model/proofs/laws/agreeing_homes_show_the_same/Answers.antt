use Rattle.tb_model.proofs.CellKeys.{homes_show_the_same}
use Rattle.tb_model.proofs.laws.agreeing_homes_show_the_same.Goals as goal

pub returns : goal.returns
returns c = homes_show_the_same

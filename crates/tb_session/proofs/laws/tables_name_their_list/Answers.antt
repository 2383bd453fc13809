use Rattle.tb_session.proofs.Numbers.{tables_name_their_list}
use Rattle.tb_session.proofs.laws.tables_name_their_list.Goals as goal

pub returns : goal.returns
returns c = tables_name_their_list

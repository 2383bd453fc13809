use Rattle.tb_session.proofs.RunLaws.{agreeing_replies_show_the_same}
use Rattle.tb_session.proofs.laws.agreeing_replies_show_the_same.Goals as goal

pub returns : goal.returns
returns c = agreeing_replies_show_the_same

use Rattle.tb_session.proofs.RunLaws.{replies_show_their_worlds}
use Rattle.tb_session.proofs.laws.replies_show_their_worlds.Goals as goal

pub returns : goal.returns
returns c = replies_show_their_worlds

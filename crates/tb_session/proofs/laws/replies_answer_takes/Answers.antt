use Rattle.tb_session.proofs.ReplyTakes.{replies_answer_takes}
use Rattle.tb_session.proofs.laws.replies_answer_takes.Goals as goal

pub returns : goal.returns
returns c = replies_answer_takes

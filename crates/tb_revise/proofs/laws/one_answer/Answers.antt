use Rattle.tb_revise.proofs.OneAnswer.{one_answer}
use Rattle.tb_revise.proofs.laws.one_answer.Goals as goal

pub returns : goal.returns
returns c = one_answer

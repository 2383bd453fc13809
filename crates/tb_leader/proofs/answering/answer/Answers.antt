use Rattle.std.proofs.Common.{arith, refl}
use Rattle.tb_leader.specs.ReplyTexts.{reply_text}
use Rattle.tb_tables.specs.Answers.{free_reply}
use Rattle.tb_leader.proofs.answering.answer.Goals as goal

pub returns-clause-replied : goal.returns-clause-replied
returns-clause-replied g c = λ steps. record {
  reply = free_reply (reply_text c.reply_to-reply.result);
  step = (refl, c.reply_to-reply.ensures.reply);
  written = c.write.ensures;
  cost = omega arith;
}

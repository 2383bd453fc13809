use Rattle.tb_session.specs.ReplyTexts.{reply_text}
use Rattle.tb_session.proofs.answering.answer.Goals as goal

pub returns-clause-answered : goal.returns-clause-answered
returns-clause-answered g c =
    let leads = c.reply_to-reply.ensures.leads in record {
      goes_on = c.reply_to-reply.ensures.goes_on;
      seen = c.reply_to-reply.ensures.seen;
      reply = record { text = reply_text c.reply_to-reply.result; price = leads.price };
      step = leads.step;
      written = c.write.ensures;
      cost = leads.cost;
    }

use Rattle.std.proofs.Common.{◌∙◌, arith, refl}
use Rattle.tb_tables.specs.Answers.{free_reply}
use Rattle.tb_tables.specs.ReplyLines.{memory_line}
use Rattle.tb_ahead.proofs.Reaching.{by_memory, by_refusal, own_as}
use Rattle.tb_ahead.proofs.answering.publish_ahead.Goals as goal

pub returns-in-Refused-clause-replied : goal.returns-in-Refused-clause-replied
returns-in-Refused-clause-replied g c =
    let Own = g.P.Publisher.Step c.args.setting.now in
    let base = g.P.Publisher.base c.args.party.now in
    let old = g.P.Publisher.state c.args.party.now in
    let new = g.P.Publisher.state c.answer_line.new.self in
    let tried = c.in-Refused.ensures in
    let done = c.answer_line.ensures.replied in
    let (kind, edit, why) = tried.tried in
    let own = own_as Own base (g.P.Publisher.base c.try_next.new.self) old (g.P.Publisher.state c.try_next.new.self) c.args.line.now done.reply new tried.base tried.state done.step in
    record {
      reply = done.reply;
      step = (
        c.answer_line.ensures.base ∙ tried.base,
        g.met.W.WriteAhead.continues_itself c.args.ahead.now,
        by_refusal (Own base) base c.args.line.now old new
            (g.W.WriteAhead.StandsFor c.args.ahead.now) (g.W.WriteAhead.StandsFor c.args.ahead.now) _ _ _ _ refl refl (λ since batches further stands. stands) kind edit why done.reply
            (g.met.P.Publisher.publishing c.args.setting.now base old c.args.line.now done.reply new c.requires.asks own),
      );
      written = done.written;
      cost = done.cost;
    }

pub returns-in-Memory-clause-replied : goal.returns-in-Memory-clause-replied
returns-in-Memory-clause-replied g c =
    let base = g.P.Publisher.base c.args.party.now in
    let tried = c.in-Memory.ensures in
    let write = c.write in
    record {
      reply = free_reply memory_line;
      step = (
        tried.base,
        g.met.W.WriteAhead.continues_itself c.args.ahead.now,
        by_memory (g.P.Publisher.Step c.args.setting.now base) base c.args.line.now (g.P.Publisher.state c.args.party.now) (g.P.Publisher.state c.try_next.new.self)
            (g.W.WriteAhead.StandsFor c.args.ahead.now) (g.W.WriteAhead.StandsFor c.args.ahead.now) _ _ _ _ refl (omega arith) (λ since batches further stands. stands) tried.state,
      );
      written = record { count = write.ensures.count; failed = write.ensures.failed; all = write.ensures.all; part = write.ensures.part };
      cost = omega arith;
    }

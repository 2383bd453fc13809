use Rattle.std.proofs.Common.{◌∙◌, refl, sym}
use Rattle.tb_ahead.specs.Keepers.{keeper}
use Rattle.tb_ahead.proofs.Reaching.{as_asked, other_line}
use Rattle.tb_ahead.proofs.answering.answer_ahead.Goals as goal

pub returns-then-asks_to_publish-clause-replied : goal.returns-then-asks_to_publish-clause-replied
returns-then-asks_to_publish-clause-replied g c =
    let done = c.publish_ahead.ensures.replied in
    record {
      reply = done.reply;
      step = as_asked g.W.WriteAhead.Continues g.W.WriteAhead.live g.W.WriteAhead.faults g.W.WriteAhead.StandsFor (g.P.Publisher.Step c.args.setting.now) (g.P.Publisher.publishes c.args.line.now)
          (keeper (g.P.Publisher.base c.args.party.now) (g.P.Publisher.state c.args.party.now) c.args.ahead.now) c.args.line.now done.reply
          (keeper (g.P.Publisher.base c.publish_ahead.new.party) (g.P.Publisher.state c.publish_ahead.new.party) c.publish_ahead.new.ahead)
          (sym c.asks_to_publish.ensures ∙ c.if-asks_to_publish.true) done.step;
      written = done.written;
      cost = done.cost;
    }

pub returns-clause-replied : goal.returns-clause-replied
returns-clause-replied g c =
    let base = g.P.Publisher.base c.args.party.now in
    let done = c.answer_line.ensures.replied in
    record {
      reply = done.reply;
      step = (
        c.answer_line.ensures.base,
        g.met.W.WriteAhead.continues_itself c.args.ahead.now,
        other_line (g.P.Publisher.Step c.args.setting.now base) base c.args.line.now (g.P.Publisher.state c.args.party.now) (g.P.Publisher.state c.answer_line.new.self)
            (g.W.WriteAhead.StandsFor c.args.ahead.now) (g.W.WriteAhead.StandsFor c.args.ahead.now) _ _ _ _ _ done.reply
            (sym c.asks_to_publish.ensures ∙ c.if-asks_to_publish.false) done.step refl refl (λ since batches further stands. stands),
      );
      written = done.written;
      cost = done.cost;
    }

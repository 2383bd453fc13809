use Rattle.std.proofs.Common.{refl, arith, ◌∙◌}
use Rattle.tb_tables.specs.Answers.{free_reply}
use Rattle.tb_tables.specs.ReplyLines.{memory_line}
use Rattle.tb_ahead.specs.Keeping.{unkept_line}
use Rattle.tb_ahead.proofs.Reaching.{by_kept, by_no_memory, by_unkept}
use Rattle.tb_ahead.proofs.answering.write_ahead.Goals as goal

pub returns-in-Kept-clause-replied : goal.returns-in-Kept-clause-replied
returns-in-Kept-clause-replied g c =
    let base = g.P.Publisher.base c.args.party.now in
    let old = g.P.Publisher.state c.args.party.now in
    let new = g.P.Publisher.state c.answer_line-done.new.self in
    let done = c.answer_line-done.ensures.replied in
    record {
      reply = done.reply;
      step = (
        c.answer_line-done.ensures.base,
        g.met.W.WriteAhead.continues_on c.args.ahead.now c.put_held.new.ahead c.close_unless_none.new.ahead c.in-Kept.ensures.continues c.close_unless_none.ensures.continues,
        by_kept (g.P.Publisher.Step c.args.setting.now base) base c.args.line.now old new
            (g.W.WriteAhead.StandsFor c.args.ahead.now) (g.W.WriteAhead.StandsFor c.put_held.new.ahead) (g.W.WriteAhead.StandsFor c.close_unless_none.new.ahead)
            c.in-Kept.ensures.kept c.close_unless_none.ensures.closes c.close_unless_none.ensures.count c.requires.follows (g.met.W.WriteAhead.further c.close_unless_none.new.ahead) done.reply
            (g.met.P.Publisher.publishing c.args.setting.now base old c.args.line.now done.reply new c.requires.asks done.step),
      );
      written = done.written;
      cost = done.cost;
    }

pub returns-in-DiskFault-clause-replied : goal.returns-in-DiskFault-clause-replied
returns-in-DiskFault-clause-replied g c =
    let base = g.P.Publisher.base c.args.party.now in
    let old = g.P.Publisher.state c.args.party.now in
    record {
      reply = free_reply unkept_line;
      step = (
        refl,
        c.in-DiskFault.ensures.continues,
        by_unkept (g.P.Publisher.Step c.args.setting.now base) base c.args.line.now old old
            (g.W.WriteAhead.StandsFor c.args.ahead.now) (g.W.WriteAhead.StandsFor c.put_held.new.ahead) _ _ _ _ c.in-DiskFault.ensures.kept c.requires.follows refl,
      );
      written = record { count = c.write.ensures.count; failed = c.write.ensures.failed; all = c.write.ensures.all; part = c.write.ensures.part };
      cost = omega arith;
    }

pub returns-in-Memory-clause-replied : goal.returns-in-Memory-clause-replied
returns-in-Memory-clause-replied g c =
    let base = g.P.Publisher.base c.args.party.now in
    let old = g.P.Publisher.state c.args.party.now in
    let write = c.write-in-Memory in
    record {
      reply = free_reply memory_line;
      step = (
        refl,
        c.in-Memory.ensures.continues,
        by_no_memory (g.P.Publisher.Step c.args.setting.now base) base c.args.line.now old old
            (g.W.WriteAhead.StandsFor c.args.ahead.now) (g.W.WriteAhead.StandsFor c.put_held.new.ahead) _ _ _ _ c.in-Memory.ensures.kept refl,
      );
      written = record { count = write.ensures.count; failed = write.ensures.failed; all = write.ensures.all; part = write.ensures.part };
      cost = omega arith;
    }

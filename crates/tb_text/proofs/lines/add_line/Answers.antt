use Rattle.std.proofs.Common.{take}
use Rattle.tb_text.specs.Lines.{line_of}
use Rattle.tb_text.proofs.Passes.{waits, all_waits}
use Rattle.tb_text.proofs.lines.add_line.Goals as goal

pub returns-then-fit_line-clause-on : goal.returns-then-fit_line-clause-on
returns-then-fit_line-clause-on g c =
    waits (line_of (take c.args.begin_len c.args.begin.now) (take c.args.field_len c.args.field.now) c.args.shown)
    (c.fit_line.ensures.fit c.if-fit_line.true) (all_waits _ _ c.args.waiting.now)

pub returns-clause-on : goal.returns-clause-on
returns-clause-on g c = rw (c.fit_line.ensures.full c.if-fit_line.false) at c.add_past_room.ensures.on

pub returns-clause-cut : goal.returns-clause-cut
returns-clause-cut g c = rw (c.fit_line.ensures.full c.if-fit_line.false) at c.add_past_room.ensures.cut

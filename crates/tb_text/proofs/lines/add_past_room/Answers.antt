use Rattle.tb_text.proofs.Passes.{waits, cut_longer, handed_past, failed_past, on_err}
use Rattle.tb_text.proofs.lines.add_past_room.Goals as goal

pub returns-in_err-hand_on-clause-cut : goal.returns-in_err-hand_on-clause-cut
returns-in_err-hand_on-clause-cut g c = on_err c.from_residual.result _ (cut_longer _ c.in_err-hand_on.ensures.cut)

pub returns-then-fit_line-clause-on : goal.returns-then-fit_line-clause-on
returns-then-fit_line-clause-on g c = waits _ (c.fit_line.ensures.fit c.if-fit_line.true) c.in_ok-hand_on.ensures.on

pub returns-in-All-clause-on : goal.returns-in-All-clause-on
returns-in-All-clause-on g c = handed_past c.hand_on.ensures.none (c.fit_line.ensures.full c.if-fit_line.false) c.in_ok-hand_on.ensures.on c.in-All.ensures.written

pub returns-in-Failed-clause-cut : goal.returns-in-Failed-clause-cut
returns-in-Failed-clause-cut g c = failed_past c.hand_on.ensures.none c.in_ok-hand_on.ensures.on c.in-Failed.ensures.written

use Rattle.std.proofs.Common.{refl}
use Rattle.tb_text.proofs.Passes.{handed_on, cut_there}
use Rattle.tb_text.proofs.lines.hand_on.Goals as goal

pub returns-in-All-clause-on : goal.returns-in-All-clause-on
returns-in-All-clause-on g c = handed_on c.clear.ensures c.as_slice.ensures c.write-wrote.ensures.count (c.in-All.ensures.all refl)

pub returns-in-Failed-clause-cut : goal.returns-in-Failed-clause-cut
returns-in-Failed-clause-cut g c = cut_there c.as_slice.ensures c.write-wrote.ensures.count (c.in-Failed.ensures.failed refl) (c.in-Failed.ensures.part refl)

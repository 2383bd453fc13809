use Rattle.std.proofs.Common.{refl}
use Rattle.tb_top.proofs.top.answer_run.Goals as goal

pub returns-in-Custodian : goal.returns-in-Custodian
returns-in-Custodian g c = rw c.in-Custodian.is ((c.requires.attached, refl), c.answer_script.ensures)

pub returns-in-Journal : goal.returns-in-Journal
returns-in-Journal g c = rw c.in-Journal.is (rw c.as_str.ensures at c.answer_keep.ensures)

pub returns-in-Leader : goal.returns-in-Leader
returns-in-Leader g c = rw c.in-Leader.is ((c.requires.attached, refl), c.answer_follow.ensures)

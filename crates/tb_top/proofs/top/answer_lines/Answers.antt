use Rattle.std.proofs.Common.{refl}
use Rattle.tb_top.proofs.top.answer_lines.Goals as goal

pub returns-in-Script : goal.returns-in-Script
returns-in-Script g c = rw c.in-Script.is (refl, c.answer_run.ensures)

pub returns-in-Lanes : goal.returns-in-Lanes
returns-in-Lanes g c = rw c.in-Lanes.is (refl, (c.requires.attached, refl), refl, c.answer_lanes.ensures)

pub returns-in-Ports : goal.returns-in-Ports
returns-in-Ports g c = rw c.in-Ports.is (refl, c.answer_ports.ensures)

pub returns-in-Sums : goal.returns-in-Sums
returns-in-Sums g c = rw c.in-Sums.is (refl, (c.requires.attached, refl), c.sum_up.ensures)

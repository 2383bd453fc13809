use Rattle.tb_serve.proofs.Lines.{cut_before, written_then}
use Rattle.tb_serve.proofs.report.write_closing.Goals as goal

pub returns-in-All : goal.returns-in-All
returns-in-All g c = record { written = written_then c.in-All.ensures.written c.write_last.ensures.written }

pub returns-in-Failed : goal.returns-in-Failed
returns-in-Failed g c = record { written = cut_before _ c.in-Failed.ensures.written }

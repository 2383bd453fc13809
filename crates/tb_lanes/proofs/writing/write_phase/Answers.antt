use Rattle.tb_serve.proofs.Lines.{cut_before, written_then}
use Rattle.tb_lanes.proofs.writing.write_phase.Goals as goal

pub returns-in-All : goal.returns-in-All
returns-in-All g c = λ texts tell. written_then c.in-All.ensures (c.write_lanes.ensures texts tell)

pub returns-in-Failed : goal.returns-in-Failed
returns-in-Failed g c = λ texts tell. cut_before _ c.in-Failed.ensures

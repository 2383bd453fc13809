use Rattle.std.proofs.Common.{refl, [], inr, ◌++◌, arith}
use Rattle.tb_base.specs.declared.status.Status.TheVariants as status
use Rattle.tb_io.proofs.TakenLemmas.{Took-nothing}
use Rattle.tb_ahead.specs.Publishing.{after_seeing}
use Rattle.tb_lanes.specs.Phases.{begun_with}
use Rattle.tb_endings.specs.Endings.{last_line}
use Rattle.tb_endings.specs.declared.endings.End.TheVariants as end
use Rattle.tb_top.proofs.LanesRun.{ended-after}
use Rattle.tb_top.proofs.lanes.lanes_from.Goals as goal

pub returns-in-Err : goal.returns-in-Err
returns-in-Err g c = (
  status.Memory,
  [] ++ last_line end.Memory,
  inr (refl, (0, [], omega arith, (begun_with (after_seeing []), refl, refl), refl)),
  ended-after _ _ _ [] (omega arith) c.end_by.ensures.count (Took-nothing _) c.end_by.ensures.ended,
)

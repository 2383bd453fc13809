use Rattle.tb_lanes.proofs.Lanes.{told_by_owner}
use Rattle.tb_lanes.proofs.telling.tell_all.Goals as goal

pub returns-clause-told : goal.returns-clause-told
returns-clause-told g c = told_by_owner g.B.Named.name _ c.args.own.now _ _ c.args.lanes.now c.tell_lanes.new.lanes c.in-Custodian.is c.requires.own c.tell_lanes.ensures.told

use Rattle.tb_serve.proofs.PortEnds.{worked_at}
use Rattle.tb_serve.proofs.workers.work_at.Goals as goal

pub returns : goal.returns
returns g c =
    worked_at g.B.Named.name c.args.setting.now.setup.now c.args.sessions c.in-Some.party c.work_as.new.party c.args.port.now c.leave.new.self c.work_as.new.port c.seat.new.self
    c.in-Some.ensures.party c.in-Some.ensures.rest c.work_as.ensures.ready.1 c.work_as.ensures.worked c.seat.ensures

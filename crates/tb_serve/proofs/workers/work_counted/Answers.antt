use Rattle.std.proofs.Common.{ap, subst, sym}
use Rattle.tb_io.specs.Listeners.{ListenerValue}
use Rattle.tb_lines.specs.Outputs.{Lead}
use Rattle.tb_serve.specs.Ports.{PortValue}
use Rattle.tb_worker.specs.Work.{HasWorked}
use Rattle.tb_serve.proofs.workers.work_counted.Goals as goal

pub returns-clause-worked : goal.returns-clause-worked
returns-clause-worked g c = record {
  worked = subst (λ (l : ListenerValue). HasWorked (Lead (g.A.Answerer.Step c.args.setting.now tt)) g.A.Answerer.fresh c.args.sessions l
      (g.N.Listen.seen c.serve_sessions-shift.new.listener) (g.A.Answerer.state c.args.party.now) (g.A.Answerer.state c.serve_sessions-shift.new.party)
      c.serve_sessions-shift.result.served c.serve_sessions-shift.result.failed) (ap (λ (p : PortValue). p.listener) c.port.view_is) c.serve_sessions-shift.ensures.worked;
  rest = λ j. record {
    listener = g.N.Listen.seen c.serve_sessions-shift.new.listener;
    served = c.serve_sessions-shift.result.served;
    failed = c.serve_sessions-shift.result.failed;
    party = ap (λ (p : PortValue). p.party) c.port.view_is j;
    has_lines = sym c.requires.lines j;
  };
}

use Rattle.std.proofs.Common.{◌≡◌, List, length}
use Rattle.tb_io.specs.Listeners.{IsCalm}
use Rattle.tb_lines.specs.Outputs.{Lead}
use Rattle.tb_worker.specs.Visits.{Visit}
use Rattle.tb_worker.specs.Work.{AreServed}
use Rattle.tb_worker.proofs.worker.serve_sessions.Given as goal

-- the sessions so far were served, and no accept failed
abbrev pub invariant-loop-served : goal.invariant-loop-served
invariant-loop-served g l = record {
  ready : g.A.Answerer.IsReady l.setting l.party;
  so_far : (visits : List Visit)
      × AreServed (Lead (g.A.Answerer.Step l.setting tt)) g.A.Answerer.fresh (g.N.Listen.seen l.fn.listener)
      (g.N.Listen.seen l.listener) (g.A.Answerer.state l.fn.party) (g.A.Answerer.state l.party) visits × (length visits ≡ l.served)
      × IsCalm (g.N.Listen.seen l.fn.listener) (g.N.Listen.seen l.listener);
}

use Rattle.tb_lines.specs.Outputs.{Lead}
use Rattle.tb_worker.proofs.Visiting.{visit_of}
use Rattle.tb_worker.proofs.Working.{none_came, none_served, one_served}
use Rattle.tb_worker.proofs.worker.serve_next.Goals as goal

pub returns-in-Session-clause-step : goal.returns-in-Session-clause-step
returns-in-Session-clause-step g c =
    one_served (Lead (g.A.Answerer.Step c.args.setting.now tt)) g.A.Answerer.fresh (g.N.Listen.seen c.args.listener.now) (g.N.Listen.seen c.accept.new.self)
    (g.N.Listen.seen c.give_back.new.self) (g.A.Answerer.state c.args.party.now) (g.A.Answerer.state c.answer_lines.new.party)
    (record { came = _; went = _; end = c.answer_lines.result }) c.in-Session.ensures c.give_back.ensures
    (visit_of (g.A.Answerer.Step c.args.setting.now tt) g.A.Answerer.fresh (g.A.Answerer.state c.args.party.now) (g.A.Answerer.state c.answer_lines.new.party) c.args.steps.now c.answer_lines.new.steps _ _ c.answer_lines.result
    c.answer_lines.ensures.read_fault c.answer_lines.ensures.write_fault c.answer_lines.ensures.session)

pub returns-in-End-clause-step : goal.returns-in-End-clause-step
returns-in-End-clause-step g c =
    none_came (Lead (g.A.Answerer.Step c.args.setting.now tt)) g.A.Answerer.fresh (g.N.Listen.seen c.args.listener.now) (g.N.Listen.seen c.accept.new.self)
    (g.A.Answerer.state c.args.party.now) c.requires.can c.in-End.ensures.0 c.in-End.ensures.1 c.in-End.ensures.2

pub returns-in-Failed-clause-step : goal.returns-in-Failed-clause-step
returns-in-Failed-clause-step g c = (
  none_served (Lead (g.A.Answerer.Step c.args.setting.now tt)) g.A.Answerer.fresh (g.N.Listen.seen c.args.listener.now) (g.N.Listen.seen c.accept.new.self)
      (g.A.Answerer.state c.args.party.now) c.requires.can c.in-Failed.ensures.0,
  c.in-Failed.ensures.1,
)

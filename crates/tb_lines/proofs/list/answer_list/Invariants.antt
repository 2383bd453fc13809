use Rattle.std.proofs.Common.{◌≤◌, take}
use Rattle.tb_lines.specs.Lists.{AreAnswered, StepBy}
use Rattle.tb_lines.specs.Outputs.{AtPrice, Lead, charged}
use Rattle.tb_lines.proofs.list.answer_list.Given as goal

-- the lines so far were answered
abbrev pub invariant-loop-i : goal.invariant-loop-i
invariant-loop-i g l = record {
  ready : g.A.Answerer.IsReady l.setting l.party;
  count : g.K.Sink.faults l.initial.sink ≤ g.K.Sink.faults l.sink;
  so_far : AreAnswered (Lead (AtPrice (StepBy (g.T.LineList.Asks l.lines) g.T.LineList.text (g.A.Answerer.Step l.setting)))) (take l.i (g.T.LineList.lines l.lines))
      (charged (g.A.Answerer.fresh (g.A.Answerer.state l.fn.party)) l.initial.steps) (charged (g.A.Answerer.state l.party) l.steps) (g.K.Sink.taken l.initial.sink) (g.K.Sink.taken l.sink);
}

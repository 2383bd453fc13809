use Rattle.std.proofs.Common.{◌≡◌, ◌≤◌, true}
use Rattle.tb_lines.specs.Outputs.{AtPrice, charged}
use Rattle.tb_lines.proofs.SoFar.{IsSoFar}
use Rattle.tb_lines.proofs.line_by_line.answer_lines.Given as goal

-- so many lines were answered, and the rest of the stream is still to come
abbrev pub invariant-lines : goal.invariant-lines
invariant-lines g l = record {
  ready : g.A.Answerer.IsReady l.setting l.party;
  reads : g.S.Source.faults l.initial.source ≤ g.S.Source.faults l.source;
  writes : g.K.Sink.faults l.initial.sink ≤ g.K.Sink.faults l.sink;
  live : l.lines.live ≡ true;
  so_far : IsSoFar (AtPrice (g.A.Answerer.Step l.setting tt)) (g.S.Source.left l.initial.source) l.i (g.S.Source.left l.source) l.lines.ahead l.lines.ended
      (charged (g.A.Answerer.fresh (g.A.Answerer.state l.fn.party)) l.initial.steps) (charged (g.A.Answerer.state l.party) l.steps) (g.K.Sink.taken l.initial.sink) (g.K.Sink.taken l.sink);
}

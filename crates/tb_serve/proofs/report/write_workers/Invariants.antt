use Rattle.tb_serve.proofs.Lines.{AreWritten}
use Rattle.tb_serve.proofs.report.write_workers.Given as goal

abbrev pub invariant-loop-i : goal.invariant-loop-i
invariant-loop-i g l = AreWritten (g.O.Sink.faults l.fn.out) (g.O.Sink.faults l.out) (g.O.Sink.taken l.fn.out)
    (g.O.Sink.taken l.out) l.ports l.i

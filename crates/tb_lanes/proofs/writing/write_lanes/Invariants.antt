use Rattle.std.proofs.Common.{ℕ, List}
use Rattle.tb_io.specs.Taken.{IsWritten}
use Rattle.tb_io.specs.declared.answers.Wrote.TheVariants as wrote
use Rattle.tb_lanes.specs.Phases.{lanes_text}
use Rattle.tb_lanes.specs.Runs.{Tell}
use Rattle.tb_lanes.proofs.writing.write_lanes.Given as goal

-- what the lanes so far say was taken
abbrev pub invariant-loop-n : goal.invariant-loop-n
invariant-loop-n g l = (texts : ℕ → List ℕ) → Tell texts l.lanes
    → IsWritten wrote.All (g.K.Sink.faults l.fn.sink) (g.K.Sink.faults l.sink) (g.K.Sink.taken l.fn.sink) (g.K.Sink.taken l.sink)
    (lanes_text l.script l.phase texts l.n)

use Rattle.std.proofs.Common.{◌≡◌, ℕ, ◌<◌, length}
use Rattle.tb_base.specs.declared.records.Record.{Record}
use Rattle.tb_base.specs.Records.{category_at}
use Rattle.tb_plan.specs.Steps.{step_at}
use Rattle.tb_scan.proofs.Stepping.{SteppedBelow}
use Rattle.tb_scan.proofs.tallied.add_steps.Given as goal

abbrev pub invariant-loop-k : goal.invariant-loop-k
invariant-loop-k l = SteppedBelow l.k (λ r. step_at l.plan l.v (category_at r l.v)) l.chunk l.initial.numbers l.numbers

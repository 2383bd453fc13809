use Rattle.std.proofs.Common.{◌≡◌, drop, map}
use Rattle.std.specs.Prelude.{◌==◌}
use Rattle.std.specs.List.{list_any}
use Rattle.tb_plan.specs.Views.{condition_view}
use Rattle.tb_plan.proofs.condition.has_condition.Given as goal

abbrev pub invariant-loop-one : goal.invariant-loop-one
invariant-loop-one l = list_any (λ f. f.variable == l.v) (map condition_view (drop l.one-index l.filters)) ≡ list_any (λ f. f.variable == l.v) (map condition_view l.filters)

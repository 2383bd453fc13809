use Rattle.std.proofs.Common.{◌≡◌, drop, map}
use Rattle.std.specs.Prelude.{◌==◌}
use Rattle.std.specs.List.{list_any}
use Rattle.tb_plan.specs.Views.{dimension_view}
use Rattle.tb_plan.proofs.dimension.has_dimension.Given as goal

abbrev pub invariant-loop-one : goal.invariant-loop-one
invariant-loop-one l = list_any (λ d. d.variable == l.v) (map dimension_view (drop l.one-index l.dimensions)) ≡ list_any (λ d. d.variable == l.v) (map dimension_view l.dimensions)

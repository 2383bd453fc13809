use Rattle.std.proofs.Common.{◌≡◌, drop}
use Rattle.std.specs.Prelude.{map}
use Rattle.tb_query.specs.Views.{filter_views}
use Rattle.tb_query.specs.Faults.{unknown_in}
use Rattle.tb_query.proofs.names.unknown_filter.Given as goal

abbrev pub invariant-loop-f : goal.invariant-loop-f
invariant-loop-f l =
    unknown_in l.schema (map (λ f. f.name) (filter_views (drop l.f-index l.filters))) ≡ unknown_in l.schema (map (λ f. f.name) (filter_views l.filters))

use Rattle.std.proofs.Common.{◌≡◌, None, take, drop}
use Rattle.std.specs.Prelude.{map}
use Rattle.tb_query.specs.Views.{filter_views}
use Rattle.tb_query.specs.Meanings.{filter_meant}
use Rattle.tb_query.specs.Faults.{unknown_in, unknown_code}
use Rattle.tb_query.proofs.codes.filters_meant.Given as goal

abbrev pub invariant-loop-f : goal.invariant-loop-f
invariant-loop-f l =
    record {
      meant : l.meant.items ≡ map (filter_meant l.schema) (filter_views (take l.f-index l.filters));
      known : unknown_in l.schema (map (λ f. f.name) (filter_views (drop l.f-index l.filters))) ≡ None;
      rest : unknown_code l.schema (filter_views (drop l.f-index l.filters)) ≡ unknown_code l.schema (filter_views l.filters);
    }

use Rattle.std.proofs.Common.{length}
use Rattle.tb_query.specs.Views.{token_views, filter_views}
use Rattle.tb_query.specs.Steps.{name, filters}
use Rattle.tb_query.specs.Reading.{Leads, with_filters}
use Rattle.tb_query.proofs.parse.filters.filters.Given as goal

abbrev pub invariant-loop-next : goal.invariant-loop-next
invariant-loop-next l = Leads (with_filters (filter_views l.filters.items)) name (token_views l.tokens) filters (token_views l.rest)

abbrev pub decreases-loop-next : goal.decreases-loop-next
decreases-loop-next l = length l.rest

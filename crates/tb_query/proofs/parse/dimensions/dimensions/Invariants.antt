use Rattle.std.proofs.Common.{length}
use Rattle.tb_query.specs.Views.{token_views}
use Rattle.tb_query.specs.Steps.{dimension, dimensions}
use Rattle.tb_query.specs.Reading.{Leads, with_dimensions}
use Rattle.tb_query.proofs.parse.dimensions.dimensions.Given as goal

abbrev pub invariant-loop-next : goal.invariant-loop-next
invariant-loop-next l = Leads (with_dimensions (token_views l.names.items)) dimension (token_views l.tokens) dimensions (token_views l.rest)

abbrev pub decreases-loop-next : goal.decreases-loop-next
decreases-loop-next l = length l.rest

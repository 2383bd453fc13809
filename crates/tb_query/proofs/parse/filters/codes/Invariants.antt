use Rattle.std.proofs.Common.{◌<◌, length}
use Rattle.tb_query.specs.Views.{token_views}
use Rattle.tb_query.specs.Steps.{code, codes}
use Rattle.tb_query.specs.Reading.{Leads, with_codes}
use Rattle.tb_query.proofs.parse.filters.codes.Given as goal

abbrev pub invariant-loop-next : goal.invariant-loop-next
invariant-loop-next l = record {
  leads : Leads (with_codes (token_views l.codes.items)) code (token_views l.tokens) codes (token_views l.rest);
  shorter : length l.rest < length l.tokens;
}

abbrev pub decreases-loop-next : goal.decreases-loop-next
decreases-loop-next l = length l.rest

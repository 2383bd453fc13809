use Rattle.std.proofs.Common.{◌≡◌, drop}
use Rattle.std.specs.Prelude.{bytes_eq}
use Rattle.std.specs.List.{list_any}
use Rattle.tb_query.specs.Views.{token_views}
use Rattle.tb_query.proofs.names.stands_in.Given as goal

abbrev pub invariant-loop-t : goal.invariant-loop-t
invariant-loop-t l = list_any (λ e. bytes_eq e.text l.text) (token_views (drop l.t-index l.tokens)) ≡ list_any (λ e. bytes_eq e.text l.text) (token_views l.tokens)

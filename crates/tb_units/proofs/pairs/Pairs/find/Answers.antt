use Rattle.std.proofs.Common.{◌≡◌, subst, List}
use Rattle.std.specs.Prelude.{false, IfNone, IfSome}
use Rattle.tb_model.specs.Units.{PairValue}
use Rattle.tb_units.specs.Pairs.{has_first, IsAt}
use Rattle.tb_units.proofs.PairLemmas.{place-found, place-missing}
use Rattle.tb_units.proofs.pairs.Pairs.find.Goals as goal

pub returns-clause-some : goal.returns-clause-some
returns-clause-some c =
    subst (λ (pairs : List PairValue). IfSome c.get_index_of.result (λ i. IsAt pairs c.args.first i)) c.self.view_is
    (place-found c.self.inside.map.entries c.args.first c.get_index_of.result c.get_index_of.ensures.index)

pub returns-clause-none : goal.returns-clause-none
returns-clause-none c =
    subst (λ (pairs : List PairValue). IfNone c.get_index_of.result (has_first pairs c.args.first ≡ false)) c.self.view_is
    (place-missing c.self.inside.map.entries c.args.first c.get_index_of.result c.get_index_of.ensures.found)

use Rattle.std.proofs.Common.{◌≤◌, length, subst, sym}
use Rattle.tb_base.specs.declared.var_set.TheConstants.{VARIABLES_IN_PLACE}
use Rattle.tb_cache.specs.Recency.{AreSmall, CacheValue}
use Rattle.tb_cache.proofs.KeptLemmas.{all_found}
use Rattle.tb_cache.proofs.CubeCache.key.Goals as goal

pub copy_in_place-requires : goal.copy_in_place-requires
copy_in_place-requires g c =
    let small = subst (λ (v : CacheValue g.row.T.Denot). AreSmall v.entries) c.self.view_is c.self.invariant.1 in
    all_found (λ e. length e.0 ≤ VARIABLES_IN_PLACE) c.args.vars.now c.args.self.now.entries _ small (sym c.in_ok-set.ensures)

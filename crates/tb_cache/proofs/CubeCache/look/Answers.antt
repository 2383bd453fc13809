use Rattle.std.proofs.Common.{ap, refl, ◌∙◌}
use Rattle.tb_cache.specs.Recency.{CacheValue, found}
use Rattle.tb_cache.specs.Shown.{entry_shown}
use Rattle.tb_cache.proofs.LookLemmas.{found-looked, served_as}
use Rattle.tb_cache.proofs.CubeCache.look.Goals as goal

pub returns : goal.returns
returns g c =
    let value = c.find.ensures ∙ ap (λ (v : CacheValue g.row.T.Denot). found c.args.vars.now v.entries) c.promote.ensures.entries ∙ found-looked c.args.vars.now c.args.self.now.entries in
    let some = served_as entry_shown c.args.vars.now c.args.self.now.entries c.find.result value in
    ((refl, λ _. tt, c.promote.ensures.entries), record { promotes = tt; value = value; some = some })

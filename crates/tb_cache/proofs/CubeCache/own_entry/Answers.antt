use Rattle.std.proofs.Common.{rules, ◌∙◌}
use Rattle.std.specs.Prelude.{bytes_eq}
use Rattle.std.proofs.lemmas.Iterator.Consumers.{YieldsList-from_rest}
use Rattle.std.proofs.lemmas.Iterator.Search.{find_from_yields_List}
use Rattle.tb_cache.proofs.LookLemmas.{find-entry}
use Rattle.tb_cache.proofs.CubeCache.own_entry.Goals as goal

pub returns : goal.returns
returns g c =
    let es = c.self.inside.lru.entries in
    rw (← c.self.view_is) (find_from_yields_List (λ e. bytes_eq c.args.vars.now e.0) _ _ c.find.result c.find.ensures.ran (YieldsList-from_rest es c.iter.ensures.rest) (λ x b q k. search rules) ∙ find-entry (bytes_eq c.args.vars.now) es)

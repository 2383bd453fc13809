use Rattle.std.proofs.Common.{ap, ◌∙◌}
use Rattle.std.specs.Prelude.{is_some}
use Rattle.tb_cache.proofs.LookLemmas.{found-served}
use Rattle.tb_cache.proofs.CubeCache.found.Goals as goal

pub returns-in_err-number-clause-some : goal.returns-in_err-number-clause-some
returns-in_err-number-clause-some g c = ap is_some c.from_residual.ensures ∙ (ap is_some c.in_err-number.ensures ∙ found-served c.args.vars.now c.args.self.now.entries)

pub returns-clause-some : goal.returns-clause-some
returns-clause-some g c = ap is_some c.in_ok-number.ensures ∙ found-served c.args.vars.now c.args.self.now.entries

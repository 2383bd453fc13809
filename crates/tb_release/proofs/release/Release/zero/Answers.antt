use Rattle.std.proofs.Common.{◌∙◌, ap, subst, sym}
use Rattle.tb_base.specs.Rules.{RulesValue}
use Rattle.tb_release.specs.Releases.{IsKept, stocked}
use Rattle.tb_release.proofs.release.Release.zero.Goals as goal

pub of-requires : goal.of-requires
of-requires c = subst (λ (rules : RulesValue). IsKept c.args.stock c.args.most 0 0 0 rules) (sym c.in_ok-rules.ensures.ok) c.requires

pub returns : goal.returns
returns c = c.in_ok-zero.ensures ∙ ap (stocked c.args.stock c.args.most 0 0 0) c.in_ok-rules.ensures.ok

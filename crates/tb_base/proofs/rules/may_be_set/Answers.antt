use Rattle.std.proofs.Common.{sym, ◌∙◌, ap, ℤ, w16}
use Rattle.std.proofs.lemmas.Int.{to_z-of_z}
use Rattle.tb_base.specs.Rules.{can_be_set}
use Rattle.tb_base.proofs.Setting.{can_told}
use Rattle.tb_base.proofs.rules.may_be_set.Goals as goal

pub returns-clause-told : goal.returns-clause-told
returns-clause-told c = λ h.
    let same = ap (λ (p : ℤ). can_be_set c.args.row c.args.key p) (to_z-of_z w16 c.args.pvalue c.ranges.pvalue) in
    can_told c.args.row c.args.key c.args.pvalue (sym same ∙ sym c.is_in_range.ensures ∙ h)

-- Edits of the rules.
use Rattle.std.specs.Prelude.{◌≤◌}
use Rattle.tb_base.specs.declared.limits.TheConstants.{MOST_THRESHOLD}
use Rattle.tb_base.specs.Rules.{MayBeSet}
use Rattle.tb_release.specs.declared.edits.Edit.{Edit}
use Rattle.tb_release.specs.declared.edits.Edit.TheVariants.{Add, Drop, Amend, Pvalue}
use Rattle.tb_release.specs.declared.edits.Edit.TheVariants.{Oldest, Threshold}

-- an edit is one of the rules, and what it sets is in range
abbrev pub IsRuleEdit : Edit → Type 0
IsRuleEdit (Add person key codes) = ⊥
IsRuleEdit (Drop person) = ⊥
IsRuleEdit (Amend person sets) = ⊥
IsRuleEdit (Pvalue row key pvalue) = MayBeSet row key pvalue
IsRuleEdit (Threshold value) = value ≤ MOST_THRESHOLD
IsRuleEdit (Oldest oldest) = Unit {0}

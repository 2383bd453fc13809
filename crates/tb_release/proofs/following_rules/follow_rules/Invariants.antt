use Rattle.std.proofs.Common.{◌≡◌, drop}
use Rattle.std.specs.Prelude.{fold}
use Rattle.tb_release.specs.Edits.{edited_rules}
use Rattle.tb_release.proofs.following_rules.follow_rules.Given as goal

-- what is left leads from the rules so far to those after all
abbrev pub invariant-loop-i : goal.invariant-loop-i
invariant-loop-i l = fold edited_rules l.rules (drop l.i l.batch.rule_edits) ≡ fold edited_rules l.fn.rules l.batch.rule_edits

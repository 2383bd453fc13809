use Rattle.std.proofs.Common.{◌≡◌, ◌+◌, ◌∙◌, ap, sym, drop}
use Rattle.std.specs.Prelude.{fold}
use Rattle.tb_release.specs.Edits.{edited_rules}
use Rattle.tb_release.proofs.FitTests.{drop_here}
use Rattle.tb_release.proofs.following_rules.follow_rules.Goals as goal

pub loop-i-preserved : goal.loop-i-preserved
loop-i-preserved c =
    let rest = drop (c.loop-i.i + 1) c.args.batch.now.rule_edits in
    ap (λ rules. fold edited_rules rules rest) c.in_ok-edit_rules.ensures
    ∙ ap (fold edited_rules c.loop-i.rules) (sym (drop_here c.args.batch.now.rule_edits c.loop-i.i c.rule_edit-edit.result.now c.rule_edit-edit.ensures.edit)) ∙ c.loop-i.invariant

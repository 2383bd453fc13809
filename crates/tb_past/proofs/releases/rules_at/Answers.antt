use Rattle.std.proofs.Common.{◌≡◌, ◌∙◌, ap, sym}
use Rattle.std.specs.Prelude.{Some, fold, slice_get}
use Rattle.tb_release.specs.Edits.{edited_rules}
use Rattle.tb_past.proofs.PastRules.{rules_next}
use Rattle.tb_past.proofs.releases.rules_at.Goals as goal

pub loop-i-preserved : goal.loop-i-preserved
loop-i-preserved c =
    let batch = c.deref.result.now in
    let there : slice_get c.args.batches.now c.loop-i.i ≡ Some batch = rw c.deref.ensures c.at-batch.ensures in
    c.in_ok-follow_rules.ensures ∙ ap (λ rules. fold edited_rules rules batch.rule_edits) c.loop-i.invariant ∙ sym (rules_next c.args.base.now c.args.batches.now c.loop-i.i batch there)

use Rattle.std.proofs.Common.{◌+◌, ◌∙◌, ap, subst, sym}
use Rattle.tb_base.specs.Rules.{RulesValue}
use Rattle.tb_release.specs.Releases.{IsKept, stocked}
use Rattle.tb_release.proofs.Runs.{draft_kept, draft_stocked}
use Rattle.tb_release.proofs.draft.Draft.finish.Goals as goal

pub of-requires : goal.of-requires
of-requires c =
    subst (λ (rules : RulesValue). IsKept c.of-stock.result c.args.self.most (c.args.self.number + 1) (c.args.self.changes + c.args.self.made) (c.args.self.edits + c.args.count) rules)
    (sym c.in_ok-rules.ensures) (draft_kept c.args.self c.args.count c.of-stock.result c.of-stock.ensures c.requires.draft c.requires.fewer c.requires.so_far)

pub returns : goal.returns
returns c =
    let number = c.args.self.number + 1 in
    let changes = c.args.self.changes + c.args.self.made in
    let edits = c.args.self.edits + c.args.count in
    draft_stocked c.args.self c.of-stock.result c.in_ok-next.next number changes edits c.of-stock.ensures
    (c.in_ok-next.ensures ∙ ap (stocked c.of-stock.result c.args.self.most number changes edits) c.in_ok-rules.ensures)

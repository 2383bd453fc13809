use Rattle.std.proofs.Common.{refl, ◌∙◌}
use Rattle.tb_release.specs.declared.draft.Draft.{Draft}
use Rattle.tb_release.proofs.Runs.{draft_of}
use Rattle.tb_release.proofs.draft.Draft.of.Goals as goal

pub returns : goal.returns
returns c =
    let draft : Draft = record { register = c.in_ok-register.register; most = c.most.result; number = c.number.result; changes = c.record_changes.result; edits = c.changes.result; made = 0; rules = c.of-rules.result } in
    draft_of draft c.args.old.now c.in_ok-register.ensures c.most.ensures c.number.ensures c.record_changes.ensures c.changes.ensures (c.of-rules.ensures ∙ c.in_ok-shared.ensures) refl c.requires

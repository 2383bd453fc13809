use Rattle.std.proofs.Common.{◌≡◌, ◌∙◌, sym, subst, ap, arith, ◌<◌, ◌≤◌, ◌+◌, length}
use Rattle.tb_base.specs.Records.{AllFit}
use Rattle.tb_model.specs.Releases.{ReleaseValue}
use Rattle.tb_release.specs.declared.limits.TheConstants.{MOST_EDITS, MOST_RELEASES, MOST_CHANGES}
use Rattle.tb_release.specs.Releases.{IsSound}
use Rattle.tb_release.specs.Results.{IsNext}
use Rattle.tb_release.proofs.Runs.{fewer_changes, is_next, last_counts, next_follows, next_leads, next_fits, batch_fits, some_edits}
use Rattle.tb_release.proofs.following.next.Goals as goal

pub make_all-requires-clause-room : goal.make_all-requires-clause-room
make_all-requires-clause-room c =
    let draft = c.in_ok-draft.draft in
    let same : draft.edits ≡ c.args.old.now.edits = ap (λ (r : ReleaseValue). r.edits) c.in_ok-draft.ensures.same in
    let fewer = c.in_ok-draft.ensures.whole.fewer in
    let none = c.in_ok-draft.ensures.none in
    let read = c.changes.ensures in omega arith

pub make_all-requires-clause-fit : goal.make_all-requires-clause-fit
make_all-requires-clause-fit c = subst (λ (r : ReleaseValue). AllFit c.args.shape.now r.records) (sym c.in_ok-draft.ensures.same) c.requires.fit

pub finish-requires-clause-fewer : goal.finish-requires-clause-fewer
finish-requires-clause-fewer c = fewer_changes c.all-list.result.now c.in_ok-draft.draft c.make_all.new.self c.in_ok-batch.batch c.in_ok-batch.ensures.made c.in_ok-draft.ensures.none

pub finish-requires-clause-so_far : goal.finish-requires-clause-so_far
finish-requires-clause-so_far c =
    let counts = last_counts c.args.old.now c.all-list.result.now c.in_ok-draft.draft c.make_all.new.self c.in_ok-batch.batch c.in_ok-draft.ensures.same c.in_ok-batch.ensures.made in
    let same = counts.2 in
    let read = c.changes.ensures in omega arith

pub returns-clause-next : goal.returns-clause-next
returns-clause-next c =
    let few : length c.all-list.result.now ≤ MOST_EDITS = rw c.all-list.ensures.all c.all-list.ensures.few in
    let number : c.args.old.now.number < MOST_RELEASES = let read = c.number.ensures in omega arith in
    let room : c.args.old.now.edits + length c.all-list.result.now ≤ MOST_CHANGES = let read = c.changes.ensures in omega arith in
    subst (λ es. IsNext c.args.old.now es c.in_ok-release.release c.in_ok-batch.batch) c.all-list.ensures.all
    (is_next c.args.old.now c.in_ok-release.release c.all-list.result.now c.in_ok-draft.draft c.make_all.new.self c.in_ok-batch.batch
    c.in_ok-draft.ensures.same c.in_ok-batch.ensures.made c.in_ok-draft.ensures.none (some_edits c.all-list.result.now (sym c.is_empty.ensures ∙ c.if-is_empty.false)) few number room
    c.in_ok-release.ensures)

pub returns-clause-follows : goal.returns-clause-follows
returns-clause-follows c = next_follows c.args.old.now c.in_ok-release.release c.args.edits.now c.in_ok-batch.batch (returns-clause-next c)

pub returns-clause-leads : goal.returns-clause-leads
returns-clause-leads c =
    next_leads c.args.old.now c.in_ok-release.release c.args.edits.now c.in_ok-batch.batch (subst IsSound c.in_ok-draft.ensures.same c.in_ok-draft.ensures.whole.sound) (returns-clause-next c)

pub returns-clause-fit : goal.returns-clause-fit
returns-clause-fit c = next_fits c.args.shape.now c.args.old.now c.in_ok-release.release c.args.edits.now c.in_ok-batch.batch c.requires.fit c.requires.edits_fit (returns-clause-next c)

pub returns-clause-changes_fit : goal.returns-clause-changes_fit
returns-clause-changes_fit c = batch_fits c.args.shape.now c.args.old.now c.in_ok-release.release c.args.edits.now c.in_ok-batch.batch c.requires.fit c.requires.edits_fit (returns-clause-next c)

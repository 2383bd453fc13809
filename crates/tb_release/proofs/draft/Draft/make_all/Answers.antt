use Rattle.std.proofs.Common.{arith, ◌≡◌, ap, ◌∙◌, sym, drop, length, ◌+◌, ◌∷◌, subst}
use Rattle.tb_base.specs.Records.{AllFit}
use Rattle.tb_model.specs.Releases.{ReleaseValue}
use Rattle.tb_release.specs.Edits.{edited_all}
use Rattle.tb_release.specs.Possible.{first_refusal}
use Rattle.tb_release.specs.Batches.{BatchValue, batch_length, batch_of}
use Rattle.tb_release.specs.Drafts.{CanSet, release_of}
use Rattle.tb_release.specs.Entries.{joined}
use Rattle.tb_release.proofs.Fitting.{fit_after}
use Rattle.tb_release.proofs.Runs.{can_set, entry_in_range, more_entries, step_batch, step_possible, fits_at, left_at}
use Rattle.tb_release.proofs.draft.Draft.make_all.Goals as goal

pub make-requires-clause-can_set : goal.make-requires-clause-can_set
make-requires-clause-can_set c =
    can_set c.args.shape.now (release_of c.loop-i.self) c.index-edits-i.result c.loop-i.invariant.fit
    (fits_at c.args.shape.now c.args.edits.now c.loop-i.i c.index-edits-i.result c.requires.edits_fit c.loop-i-test.true c.index-edits-i.is)

pub add-requires-clause-in_range : goal.add-requires-clause-in_range
add-requires-clause-in_range c =
    let can : CanSet (release_of c.loop-i.self) c.index-edits-i.result =
    can_set c.args.shape.now (release_of c.loop-i.self) c.index-edits-i.result c.loop-i.invariant.fit
    (fits_at c.args.shape.now c.args.edits.now c.loop-i.i c.index-edits-i.result c.requires.edits_fit c.loop-i-test.true c.index-edits-i.is) in
    entry_in_range (release_of c.loop-i.self) c.index-edits-i.result c.in_ok-entry.entry can c.in_ok-entry.ensures.makes

pub loop-i-preserved : goal.loop-i-preserved
loop-i-preserved c =
    let e = c.index-edits-i.result in
    let rest = drop (c.loop-i.i + 1) c.args.edits.now in
    let made = c.in_ok-entry.ensures in
    let added = c.in_ok-add.ensures in
    let longer = more_entries c.loop-i.batch c.in_ok-entry.entry in
    let length_is = ap batch_length added ∙ longer.0 in
    let changes_are = ap (λ (b : BatchValue). length b.changes) added ∙ longer.1 in
    let left : drop c.loop-i.i c.args.edits.now ≡ e ∷ rest = left_at c.args.edits.now c.loop-i.i e c.loop-i-test.true c.index-edits-i.is in
    let now : ReleaseValue = release_of c.loop-i.self in
    let next : ReleaseValue = release_of c.make.new.self in record {
      draft = made.whole;
      so_far = ap (λ (r : ReleaseValue). r.changes) made.leaves ∙ c.loop-i.invariant.so_far;
      count = omega (arith, made.count, c.loop-i.invariant.count, changes_are);
      so_many = omega (arith, length_is, c.loop-i.invariant.so_many);
      fit =
          subst (AllFit c.args.shape.now) (sym (ap (λ (r : ReleaseValue). r.records) made.leaves))
          (fit_after c.args.shape.now now e c.loop-i.invariant.fit (fits_at c.args.shape.now c.args.edits.now c.loop-i.i e c.requires.edits_fit c.loop-i-test.true c.index-edits-i.is));
      possible = step_possible (c.loop-i.i + 1) now next e rest (sym c.refusal.ensures ∙ c.in_default.is) made.leaves ∙ ap (first_refusal (c.loop-i.i + 1) now) (sym left) ∙ c.loop-i.invariant.possible;
      release = ap (λ r. edited_all r rest) made.leaves ∙ ap (edited_all now) (sym left) ∙ c.loop-i.invariant.release;
      batch =
          step_batch c.loop-i.batch c.add.new.self c.in_ok-entry.entry now next e rest made.leaves made.makes added
          ∙ ap (λ es. joined c.loop-i.batch (batch_of now es)) (sym left) ∙ c.loop-i.invariant.batch;
    }

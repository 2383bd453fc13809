-- Records that fit a shape still do after changes that fit it.
use Rattle.std.proofs.Common.{ℕ, Bool, true, false, cond, List, [], ◌∷◌, refl}
use Rattle.std.specs.Prelude.{Option, Some, None, fold, All, not, if◌then◌else◌}
use Rattle.std.specs.List.{AllByRecursion}
use Rattle.std.specs.Option.{ForSome}
use Rattle.std.proofs.lemmas.List.Elements.{All-push, All-filter, All-map, All-weaker, recursion_from_All}
use Rattle.tb_base.specs.declared.records.Record.{Record}
use Rattle.tb_base.specs.Records.{Fits, AllFit}
use Rattle.tb_model.specs.Releases.{ReleaseValue}
use Rattle.tb_release.specs.declared.edits.Change.{Change}
use Rattle.tb_release.specs.Batches.{BatchValue}
use Rattle.tb_release.specs.Chains.{changed_records, changed, after_batch, release_after}
use Rattle.tb_pages.specs.Pages.{is_of}
use Rattle.tb_release.specs.Results.{ChangeFits}

one_of : (b : Bool) (shape : List ℕ) (new r : Record) → Fits shape new → Fits shape r → Fits shape (cond b new r)
one_of true shape new r fit_new fit = fit_new
one_of false shape new r fit_new fit = fit

fit_with : (shape : List ℕ) (records : List Record) (person : ℕ) (before after : Option Record) → ForSome after (Fits shape) → AllFit shape records → AllFit shape (changed_records records person before after)
fit_with shape records person None None fits fit = fit
fit_with shape records person None (Some new) fits fit = All-push (Fits shape) records new fit (fits new refl)
fit_with shape records person (Some old) None fits fit = All-filter (λ r. not (is_of person r)) (Fits shape) records fit
fit_with shape records person (Some old) (Some new) fits fit =
    All-map (Fits shape) (λ r. if is_of person r then new else r) records
    (All-weaker (Fits shape) (λ r. Fits shape (if is_of person r then new else r)) (λ r h. one_of (is_of person r) shape new r (fits new refl) h) records fit)

fit_changes : (shape : List ℕ) (release : ReleaseValue) (changes : List Change) → AllByRecursion (ChangeFits shape) changes → AllFit shape release.records → AllFit shape (fold changed release changes).records
fit_changes shape release [] fits fit = fit
fit_changes shape release (c ∷ cs) fits fit = fit_changes shape (changed release c) cs fits.1 (fit_with shape release.records c.person c.before c.after fits.0.1 fit)

fit_batch : (shape : List ℕ) (release : ReleaseValue) (batch : BatchValue) → All (ChangeFits shape) batch.changes → AllFit shape release.records → AllFit shape (after_batch release batch).records
fit_batch shape release batch fits fit = fit_changes shape release batch.changes (recursion_from_All (ChangeFits shape) batch.changes fits) fit

pub fit_chain : (shape : List ℕ) (release : ReleaseValue) (chain : List BatchValue) → AllByRecursion (λ (batch : BatchValue). All (ChangeFits shape) batch.changes) chain
    → AllFit shape release.records → AllFit shape (release_after release chain).records
fit_chain shape release [] fits fit = fit
fit_chain shape release (batch ∷ chain) fits fit = fit_chain shape (after_batch release batch) chain fits.1 (fit_batch shape release batch fits.0 fit)

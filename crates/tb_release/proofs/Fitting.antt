-- Records that fit a shape, after edits that fit it.
use Rattle.std.proofs.Common.{◌≡◌, ℕ, ◌<◌, Bool, true, false, List, [], ◌∷◌, length, inl, inr, arith, set, get_or}
use Rattle.std.specs.Prelude.{slice_set, slice_index, if◌then◌else◌, not}
use Rattle.std.specs.List.{AllByRecursion}
use Rattle.std.proofs.lemmas.Bool.Decides.{eqb_tells}
use Rattle.std.proofs.lemmas.List.{length-set, get_or-set_same, get_or-set_other}
use Rattle.std.proofs.lemmas.List.Elements.{All-push, All-filter, All-map, All-weaker}
use Rattle.tb_base.specs.declared.records.Record.{Record}
use Rattle.tb_base.specs.Records.{Fits, AllFit}
use Rattle.tb_model.specs.Releases.{ReleaseValue}
use Rattle.tb_pages.specs.Pages.{is_of}
use Rattle.tb_release.specs.declared.edits.Edit.{Edit}
use Rattle.tb_release.specs.declared.edits.Edit.TheVariants.{Add, Drop, Amend, Pvalue, Threshold, Oldest}
use Rattle.tb_release.specs.Edits.{edited, edited_all, amended}
use Rattle.tb_release.specs.Laws.{EditFits}

set_fits : (shape codes : List ℕ) (v category : ℕ) → length codes ≡ length shape → ((k : ℕ) → k < length shape → get_or codes k 0 < get_or shape k 0)
    → v < length shape → category < get_or shape v 0 → (k : ℕ) → k < length shape → get_or (set codes v category) k 0 < get_or shape k 0
set_fits shape codes v category long below inside small k within =
    let room : v < length codes = omega arith in
    elim (eqb_tells k v) [
      | inl h ↦ rw (h.1, get_or-set_same codes v category 0 room) small
      | inr h ↦ rw (get_or-set_other codes v k category 0 h.1) (below k within)
    ]

amended_fits : (shape : List ℕ) (sets : List (ℕ × ℕ)) (r : Record) → AllByRecursion (λ (s : ℕ × ℕ). (s.0 < length shape) × (s.1 < slice_index shape s.0)) sets → Fits shape r → Fits shape (amended sets r)
amended_fits shape [] r inside fits = record { long = fits.long; below = fits.below; key = fits.key }
amended_fits shape (s ∷ ss) r inside fits =
    let one : Fits shape (record r { codes = slice_set r.codes s.0 s.1 }) = record {
      long = rw length-set fits.long;
      below = set_fits shape r.codes s.0 s.1 fits.long fits.below inside.0.0 inside.0.1;
      key = fits.key;
    } in
    let rest = amended_fits shape ss (record r { codes = slice_set r.codes s.0 s.1 }) inside.1 one in record { long = rest.long; below = rest.below; key = rest.key }

fit_if : (b : Bool) (shape : List ℕ) (sets : List (ℕ × ℕ)) (r : Record) → AllByRecursion (λ (s : ℕ × ℕ). (s.0 < length shape) × (s.1 < slice_index shape s.0)) sets → Fits shape r
    → Fits shape (if b then amended sets r else r)
fit_if true shape sets r inside fits = amended_fits shape sets r inside fits
fit_if false shape sets r inside fits = fits

pub fit_after : (shape : List ℕ) (release : ReleaseValue) (edit : Edit) → AllFit shape release.records → EditFits shape edit → AllFit shape (edited release edit).records
fit_after shape release (Add person key codes) fit fits = All-push (Fits shape) release.records (record { person = person; key = key; codes = codes }) fit fits
fit_after shape release (Drop person) fit fits = All-filter (λ x. not (is_of person x)) (Fits shape) release.records fit
fit_after shape release (Amend person sets) fit fits =
    All-map (Fits shape) (λ x. if is_of person x then amended sets x else x) release.records
    (All-weaker (Fits shape) (λ r. Fits shape (if is_of person r then amended sets r else r)) (λ r h. fit_if (is_of person r) shape sets r fits h) release.records fit)
fit_after shape release (Pvalue row key pvalue) fit fits = fit
fit_after shape release (Threshold value) fit fits = fit
fit_after shape release (Oldest oldest) fit fits = fit

pub stay_fitting : (shape : List ℕ) (release : ReleaseValue) (edits : List Edit) → AllFit shape release.records → AllByRecursion (EditFits shape) edits → AllFit shape (edited_all release edits).records
stay_fitting shape release [] fit fits = fit
stay_fitting shape release (e ∷ es) fit fits = stay_fitting shape (edited release e) es (fit_after shape release e fit fits.0) fits.1

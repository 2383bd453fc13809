-- A cube between two releases.
use Rattle.std.proofs.Common.{◌≡◌, ℕ, ◌+◌, ◌<◌, false, List, [], ◌∷◌, length, drop, get_or, refl, sym, ap, subst, ◌∙◌}
use Rattle.std.specs.Prelude.{All, fold}
use Rattle.tb_base.specs.Rules.{RulesValue}
use Rattle.tb_model.specs.Releases.{ReleaseValue}
use Rattle.tb_cube.specs.Cubes.{cube_over, CubeValue}
use Rattle.tb_release.specs.declared.edits.Change.{Change}
use Rattle.tb_release.specs.declared.edits.Edit.{Edit}
use Rattle.tb_release.specs.declared.edits.Edit.TheVariants.{Add, Drop, Amend, Pvalue, Threshold, Oldest}
use Rattle.tb_release.specs.Releases.{IsSound}
use Rattle.tb_release.specs.Edits.{edited, edited_rules, is_of_rules}
use Rattle.tb_release.specs.Possible.{ArePossible}
use Rattle.tb_release.specs.Batches.{BatchValue, change_of, changes_of}
use Rattle.tb_release.specs.Chains.{after_batch, changed}
use Rattle.tb_release.specs.Results.{ChangeFits}
use Rattle.tb_release.proofs.Chained.{changes_of-record, with_rules}
use Rattle.tb_release.proofs.Edited.{changed-change_of, sound_after}
use Rattle.tb_release.proofs.Runs.{left_at}
use Rattle.tb_delta.specs.Advancing.{with_change, CanAdvance, CanMake}
use Rattle.tb_delta.proofs.Spots.{spot}
use Rattle.tb_delta.proofs.Making.{makes, of-held, Makes}

-- some changes of a batch were made, and these are left
pub record IsUnderWay (start : CubeValue) (release : ReleaseValue) (batch : BatchValue) (rest : List Change) (cube : CubeValue) : Type 0 where
  pub now : ReleaseValue
  pub edits : List Edit
  pub sound : IsSound now
  pub possible : ArePossible now edits
  pub theirs : rest ≡ changes_of now edits
  pub are : cube ≡ cube_over start.shape start.vars now.records
  pub leads : (fold changed now rest).records ≡ (fold changed release batch.changes).records

pub begins : (start : CubeValue) (release : ReleaseValue) (batch : BatchValue) → CanAdvance start batch release → IsUnderWay start release batch batch.changes start
begins start release batch can = record {
  now = release;
  edits = can.follows.edits;
  sound = can.sound;
  possible = can.follows.can.possible;
  theirs = ap (λ (b : BatchValue). b.changes) can.follows.theirs;
  are = of-held start release.records can.dense can.holds;
  leads = refl;
}

-- the first of the changes that are left can be made, and then the others are left
pub record Step (start : CubeValue) (release : ReleaseValue) (batch : BatchValue) (change : Change) (more : List Change) (cube : CubeValue) : Type 0 where
  pub can : CanMake cube change
  pub goes : (new : CubeValue) → new ≡ with_change cube change → IsUnderWay start release batch more new

-- the change is that of the next edit, which is of a record
record_step : (start : CubeValue) (release : ReleaseValue) (batch : BatchValue) (change : Change) (more : List Change) (cube : CubeValue) (now : ReleaseValue) (edit : Edit) (edits : List Edit)
    → is_of_rules edit ≡ false → All (λ v. v < length start.shape) start.vars → ChangeFits start.shape change
    → IsSound now → ArePossible now (edit ∷ edits) → change ∷ more ≡ changes_of now (edit ∷ edits) → cube ≡ cube_over start.shape start.vars now.records
    → (fold changed now (change ∷ more)).records ≡ (fold changed release batch.changes).records → Step start release batch change more cube
record_step start release batch change more cube now edit edits of there fits sound possible theirs are leads =
    let all : change ∷ more ≡ change_of now edit ∷ changes_of (edited now edit) edits = theirs ∙ changes_of-record now edit edits of in
    let this : change ≡ change_of now edit = cc in
    let those : more ≡ changes_of (edited now edit) edits = cc in
    let here : CubeValue = cube_over start.shape start.vars now.records in
    let made : Makes here (change_of now edit) (edited now edit).records =
    makes here (change_of now edit) now.records (edited now edit).records (spot now edit of sound possible.0) there (subst (ChangeFits start.shape) this fits) refl refl in
    let next : changed now change ≡ edited now edit = ap (changed now) this ∙ changed-change_of now edit of sound.distinct possible.0 in record {
      can = subst (λ (c : CubeValue). CanMake c change) (sym are) (subst (CanMake here) (sym this) made.can);
      goes = λ new is. record {
        now = edited now edit;
        edits = edits;
        sound = sound_after now edit possible.0 sound;
        possible = possible.1;
        theirs = those;
        are = is ∙ ap (λ (c : CubeValue). with_change c change) are ∙ ap (with_change here) this ∙ made.leads;
        leads = ap (λ r. (fold changed r more).records) (sym next) ∙ leads;
      };
    }

-- other rules make no difference to the records
same_records : (now : ReleaseValue) (rules : RulesValue) (changes : List Change) → (fold changed (record now { rules = rules }) changes).records ≡ (fold changed now changes).records
same_records now rules changes = ap (λ (r : ReleaseValue). r.records) (with_rules now rules changes)

-- edits of the rules are passed over, up to the next edit of a record
step_of : (start : CubeValue) (release : ReleaseValue) (batch : BatchValue) (change : Change) (more : List Change) (cube : CubeValue) (now : ReleaseValue) (edits : List Edit)
    → All (λ v. v < length start.shape) start.vars → ChangeFits start.shape change
    → IsSound now → ArePossible now edits → change ∷ more ≡ changes_of now edits → cube ≡ cube_over start.shape start.vars now.records
    → (fold changed now (change ∷ more)).records ≡ (fold changed release batch.changes).records → Step start release batch change more cube
step_of start release batch change more cube now [] there fits sound possible theirs are leads = cc
step_of start release batch change more cube now (Add person key codes ∷ edits) there fits sound possible theirs are leads =
    record_step start release batch change more cube now (Add person key codes) edits refl there fits sound possible theirs are leads
step_of start release batch change more cube now (Drop person ∷ edits) there fits sound possible theirs are leads =
    record_step start release batch change more cube now (Drop person) edits refl there fits sound possible theirs are leads
step_of start release batch change more cube now (Amend person sets ∷ edits) there fits sound possible theirs are leads =
    record_step start release batch change more cube now (Amend person sets) edits refl there fits sound possible theirs are leads
step_of start release batch change more cube now (Pvalue row key pvalue ∷ edits) there fits sound possible theirs are leads =
    step_of start release batch change more cube (edited now (Pvalue row key pvalue)) edits there fits (sound_after now (Pvalue row key pvalue) possible.0 sound) possible.1 theirs are
    (same_records now (edited_rules now.rules (Pvalue row key pvalue)) (change ∷ more) ∙ leads)
step_of start release batch change more cube now (Threshold value ∷ edits) there fits sound possible theirs are leads =
    step_of start release batch change more cube (edited now (Threshold value)) edits there fits (sound_after now (Threshold value) possible.0 sound) possible.1 theirs are
    (same_records now (edited_rules now.rules (Threshold value)) (change ∷ more) ∙ leads)
step_of start release batch change more cube now (Oldest oldest ∷ edits) there fits sound possible theirs are leads =
    step_of start release batch change more cube (edited now (Oldest oldest)) edits there fits (sound_after now (Oldest oldest) possible.0 sound) possible.1 theirs are
    (same_records now (edited_rules now.rules (Oldest oldest)) (change ∷ more) ∙ leads)

-- the step at a place of the batch, whose changes stand in a list
pub step : (start : CubeValue) (release : ReleaseValue) (batch : BatchValue) (list : List Change) (i : ℕ) (change : Change) (cube : CubeValue)
    → All (λ v. v < length start.shape) start.vars → All (ChangeFits start.shape) batch.changes → list ≡ batch.changes → i < length list → change ≡ get_or list i change
    → IsUnderWay start release batch (drop i batch.changes) cube → Step start release batch change (drop (i + 1) batch.changes) cube
step start release batch list i change cube there fit same below is way =
    let within : i < length batch.changes = subst (λ (cs : List Change). i < length cs) same below in
    let here : change ≡ get_or batch.changes i change = subst (λ (cs : List Change). change ≡ get_or cs i change) same is in
    let split : drop i batch.changes ≡ change ∷ drop (i + 1) batch.changes = left_at batch.changes i change within here in
    step_of start release batch change (drop (i + 1) batch.changes) cube way.now way.edits there (subst (ChangeFits start.shape) (sym here) (fit i change within))
    way.sound way.possible (sym split ∙ way.theirs) way.are (ap (λ cs. (fold changed way.now cs).records) (sym split) ∙ way.leads)

pub ends : (start : CubeValue) (release : ReleaseValue) (batch : BatchValue) (rest : List Change) (cube : CubeValue) → IsUnderWay start release batch rest cube → rest ≡ []
    → cube ≡ cube_over start.shape start.vars (after_batch release batch).records
ends start release batch rest cube way none =
    way.are ∙ ap (cube_over start.shape start.vars) (ap (λ cs. (fold changed way.now cs).records) (sym none) ∙ way.leads)

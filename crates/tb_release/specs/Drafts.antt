-- A release while it is edited.
use Rattle.std.specs.Prelude.{◌≡◌, ◌+◌, ◌<◌, ◌≤◌, ℕ, List, length, None}
use Rattle.std.specs.List.{AllByRecursion}
use Rattle.std.specs.Option.{ForSome}
use Rattle.tb_base.specs.declared.people.TheConstants.{MOST_PERSONS}
use Rattle.tb_base.specs.declared.limits.TheConstants.{MOST_THRESHOLD}
use Rattle.tb_base.specs.Rules.{MayBeSet}
use Rattle.tb_model.specs.Releases.{ReleaseValue}
use Rattle.tb_pages.specs.Pages.{record_of}
use Rattle.tb_pages.specs.Registers.{IsRegister}
use Rattle.tb_pages.specs.Rooms.{AreFilledBy}
use Rattle.tb_release.specs.declared.draft.Draft.{Draft}
use Rattle.tb_release.specs.declared.edits.Edit.{Edit}
use Rattle.tb_release.specs.declared.edits.Edit.TheVariants.{Add, Drop, Amend, Pvalue}
use Rattle.tb_release.specs.declared.edits.Edit.TheVariants.{Oldest, Threshold}
use Rattle.tb_release.specs.declared.edits.BatchEntry.{BatchEntry}
use Rattle.tb_release.specs.declared.limits.TheConstants.{MOST_RELEASES}
use Rattle.tb_release.specs.Releases.{IsSound, registered}
use Rattle.tb_release.specs.Edits.{edited, edited_all}
use Rattle.tb_release.specs.Possible.{first_refusal}
use Rattle.tb_release.specs.Batches.{BatchValue, batch_of}
use Rattle.tb_release.specs.Entries.{changes_in, entry_of}

-- the release for which a draft stands
abbrev pub release_of : Draft → ReleaseValue
release_of draft =
    registered draft.register draft.most draft.number draft.changes draft.edits draft.rules

-- persons are found on their pages, the release is sound, there are no more pages than the changes
-- so far and those made suffice for, no more changes than edits, and another release may come
pub record IsDraft (draft : Draft) : Type 0 where
  pub whole : IsRegister draft.register
  pub sound : IsSound (release_of draft)
  pub room : AreFilledBy draft.register.pages (MOST_PERSONS + (draft.changes + draft.made))
  pub number : draft.number < MOST_RELEASES
  pub fewer : draft.changes ≤ draft.edits

-- a draft stands for a release, and no change was made
pub record IsDraftOf (release : ReleaseValue) (draft : Draft) : Type 0 where
  pub whole : IsDraft draft
  pub same : release_of draft ≡ release
  pub none : draft.made ≡ 0

-- an edit leads from a draft to another, with its entry in the batch
pub record IsMade (edit : Edit) (old new : Draft) (entry : BatchEntry) : Type 0 where
  pub leaves : release_of new ≡ edited (release_of old) edit
  pub makes : entry ≡ entry_of (release_of old) edit
  pub count : new.made ≡ old.made + changes_in entry
  pub whole : IsDraft new

-- so do all the edits, none of which is refused, with their batch
pub record AreMade (edits : List Edit) (old new : Draft) (batch : BatchValue) : Type 0 where
  pub possible : first_refusal 1 (release_of old) edits ≡ None
  pub leaves : release_of new ≡ edited_all (release_of old) edits
  pub makes : batch ≡ batch_of (release_of old) edits
  pub count : new.made ≡ old.made + length batch.changes
  pub whole : IsDraft new

-- there is a category of each variable that is set
abbrev pub HaveVariables : List (ℕ × ℕ) → List ℕ → Type 0
HaveVariables sets codes = AllByRecursion (λ s. s.0 < length codes) sets

-- what an edit sets can be set: a record that is amended has each variable, and a pvalue and a
-- threshold are in range
abbrev pub CanSet : ReleaseValue → Edit → Type 0
CanSet release (Add person key codes) = Unit {0}
CanSet release (Drop person) = Unit {0}
CanSet release (Amend person sets) =
    ForSome (record_of release.records person) (λ r. HaveVariables sets r.codes)
CanSet release (Pvalue row key pvalue) = MayBeSet row key pvalue
CanSet release (Threshold value) = value ≤ MOST_THRESHOLD
CanSet release (Oldest oldest) = Unit {0}

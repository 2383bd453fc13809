-- Laws of edits, batches and chains.
use Rattle.std.specs.Prelude.{◌≡◌, ◌<◌, ◌≤◌, ◌↔◌, ℕ, ◌+◌, List, [], ◌∷◌, ◌++◌, length}
use Rattle.std.specs.Prelude.{slice_index, slice_index_or, take, true, All, Some, None}
use Rattle.std.specs.List.{AllByRecursion}
use Rattle.std.specs.FinMap as finmap
use Rattle.tb_base.specs.declared.records.Record.{Record}
use Rattle.tb_base.specs.Records.{Fits, AllFit}
use Rattle.tb_base.specs.declared.limits.TheConstants.{MOST_THRESHOLD}
use Rattle.tb_base.specs.Rules.{MayBeSet}
use Rattle.tb_model.specs.Releases.{KeyBook, ReleaseValue, first_release}
use Rattle.tb_pages.specs.Pages.{no_page}
use Rattle.tb_pages.specs.Stamps.{KeepsPages}
use Rattle.tb_release.specs.declared.edits.Edit.{Edit}
use Rattle.tb_release.specs.declared.edits.Edit.TheVariants.{Add, Drop, Amend, Pvalue}
use Rattle.tb_release.specs.declared.edits.Edit.TheVariants.{Oldest, Threshold}
use Rattle.tb_release.specs.declared.limits.TheConstants.{MOST_EDITS}
use Rattle.tb_release.specs.Releases.{IsSound}
use Rattle.tb_release.specs.Edits.{edited_all}
use Rattle.tb_release.specs.Possible.{ArePossible}
use Rattle.tb_release.specs.Batches.{BatchValue, CanFollow, Follows, batch_of, batch_refusal}
use Rattle.tb_release.specs.Batches.{next_release}
use Rattle.tb_release.specs.Chains.{after_batch, release_after, change_count, edit_count, IsChain}
use Rattle.tb_release.specs.Fitting.{edits_fit}

-- edits, at most the most, can follow a release exactly where there is no refusal
abbrev pub CanFollowUnlessRefused : Type 0
CanFollowUnlessRefused =
    (release : ReleaseValue) (edits : List Edit) → length edits ≤ MOST_EDITS
    → (batch_refusal release edits ≡ None) ↔ CanFollow release edits

-- possible edits leave a sound release sound
abbrev pub StaySound : Type 0
StaySound =
    (release : ReleaseValue) (edits : List Edit) → ArePossible release edits → IsSound release
    → IsSound (edited_all release edits)

-- a key book keeps each key of another
abbrev pub KeepsKeys : KeyBook → KeyBook → Type 0
KeepsKeys old new =
    (person key : ℕ) → finmap.get old person ≡ Some key → finmap.get new person ≡ Some key

-- possible edits keep each key in the key book
abbrev pub KeysStay : Type 0
KeysStay =
    (release : ReleaseValue) (edits : List Edit) → ArePossible release edits
    → KeepsKeys release.key_book (edited_all release edits).key_book

-- what an edit adds or sets fits a shape, or, if it is one of the rules, is in range
abbrev pub EditFits : List ℕ → Edit → Type 0
EditFits shape (Add person key codes) =
    Fits shape (record { person = person; key = key; codes = codes })
EditFits shape (Drop person) = Unit {0}
EditFits shape (Amend person sets) =
    AllByRecursion (λ s. (s.0 < length shape) × (s.1 < slice_index shape s.0)) sets
EditFits shape (Pvalue row key pvalue) = MayBeSet row key pvalue
EditFits shape (Threshold value) = value ≤ MOST_THRESHOLD
EditFits shape (Oldest oldest) = Unit {0}

-- the test of edits is true exactly where what each adds or sets fits
abbrev pub FitIsTold : Type 0
FitIsTold =
    (shape : List ℕ) (edits : List Edit)
    → (edits_fit shape edits ≡ true) ↔ All (EditFits shape) edits

-- records that fit a shape still do after edits that fit it
abbrev pub StayFitting : Type 0
StayFitting =
    (shape : List ℕ) (release : ReleaseValue) (edits : List Edit) → AllFit shape release.records
    → AllByRecursion (EditFits shape) edits → AllFit shape (edited_all release edits).records

-- the batch of edits leads to the release that the edits leave
abbrev pub BatchesLeadOn : Type 0
BatchesLeadOn =
    (release : ReleaseValue) (edits : List Edit) → IsSound release → ArePossible release edits
    → after_batch release (batch_of release edits) ≡ next_release release edits

-- the release after a chain is sound, has the keys and the limit from before, shows no release
-- again that was taken back, and counts batches, changes and edits
pub record ChainFacts (release : ReleaseValue) (chain : List BatchValue) : Type 0 where
  pub sound : IsSound (release_after release chain)
  pub keys : KeepsKeys release.key_book (release_after release chain).key_book
  pub most : (release_after release chain).most ≡ release.most
  pub oldest : release.rules.oldest ≤ (release_after release chain).rules.oldest
  pub number : (release_after release chain).number ≡ release.number + length chain
  pub changes : (release_after release chain).changes ≡ release.changes + change_count chain
  pub edits : (release_after release chain).edits ≡ release.edits + edit_count chain

-- that is so of each chain from a sound release on
abbrev pub ChainsHold : Type 0
ChainsHold =
    (release : ReleaseValue) (chain : List BatchValue) → IsSound release → IsChain release chain
    → ChainFacts release chain

-- a chain goes on by a batch that follows the release after it
abbrev pub ChainsGoOn : Type 0
ChainsGoOn =
    (release : ReleaseValue) (chain : List BatchValue) (batch : BatchValue)
    → IsChain release chain → Follows (release_after release chain) batch
    → IsChain release (chain ++ batch ∷ [])

-- the first batches of a chain are a chain, and the others are one from the release after them
abbrev pub ChainsSplit : Type 0
ChainsSplit =
    (release : ReleaseValue) (first rest : List BatchValue) → IsChain release (first ++ rest)
    → IsChain release first × IsChain (release_after release first) rest

-- after a batch each page has the next release's number as its stamp, or is as it was
abbrev pub BatchesKeepPages : Type 0
BatchesKeepPages =
    (release : ReleaseValue) (batch : BatchValue)
    → KeepsPages (release.number + 1) release.pages (after_batch release batch).pages

-- page i of the release after a chain is page i of the release after so many of its first batches
-- as the page's stamp says
abbrev pub StampsTell : Type 0
StampsTell =
    (most threshold : ℕ) (people : List Record) (chain : List BatchValue) (i : ℕ)
    → let base = first_release most threshold people in
    let last = release_after base chain in
    let stamp = (slice_index_or last.pages i no_page).stamp in
    i < length last.pages
    → (stamp ≤ length chain)
    × (slice_index_or last.pages i no_page
    ≡ slice_index_or (release_after base (take stamp chain)).pages i no_page)

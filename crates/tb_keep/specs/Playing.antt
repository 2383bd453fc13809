-- How a journal is played: each of its batches is published, one after another, up to the first
-- that can't be.
use Rattle.std.specs.Prelude.{◌≡◌, ◌≤◌, ◌⊎◌, ◌+◌, ◌++◌, ℕ, List, [], ◌∷◌, All, length, map, drop}
use Rattle.std.specs.Prelude.{Option, Some, None, true}
use Rattle.std.specs.List.{AllByRecursion}
use Rattle.tb_board.specs.Custodians.{CustodianValue, after_publishing}
use Rattle.tb_board.specs.Holders.{release_seen}
use Rattle.tb_disk.specs.Images.{WhereTold}
use Rattle.tb_journal.specs.Fitting.{FitsSetup}
use Rattle.tb_journal.specs.Reading.{IsBad, IsEnd, IsNextBatch, IsRecord}
use Rattle.tb_journal.specs.Records.{HasGate, payload_at, payloads_before, stands_for}
use Rattle.tb_journal.specs.States.{JournalState}
use Rattle.tb_model.specs.Releases.{ReleaseValue}
use Rattle.tb_model.specs.Schemas.{shape_of}
use Rattle.tb_model.specs.Setups.{SetupValue}
use Rattle.tb_release.specs.Batches.{CanFollow, batch_of, batch_refusal}
use Rattle.tb_release.specs.Chains.{after_batch, release_after}
use Rattle.tb_release.specs.declared.edits.Edit.{Edit}
use Rattle.tb_release.specs.declared.fault.EditFaultKind.{EditFaultKind}
use Rattle.tb_release.specs.declared.limits.TheConstants.{MOST_RELEASES}
use Rattle.tb_spelling.specs.declared.limits.TheConstants.{MOST_PAYLOAD_BYTES}
use Rattle.tb_spelling.specs.Payloads.{IsPayload}
use Rattle.tb_spelling.specs.Spelling.{spelled}
use Rattle.tb_keep.specs.Chains.{batches_of}
use Rattle.tb_keep.specs.declared.playing.Followed.{Followed}
use Rattle.tb_keep.specs.declared.playing.Followed.TheVariants as followed
use Rattle.tb_keep.specs.declared.playing.Played.{Played}
use Rattle.tb_keep.specs.declared.playing.Played.TheVariants as played

-- each edit fits the setup
abbrev pub Fit : SetupValue → List Edit → Type 0
Fit setup edits = All (FitsSetup (shape_of setup.schema) setup.schema.keys) edits

-- each batch fits the setup, and can follow the release to which those before it lead
abbrev pub CanAllFollow : SetupValue → ReleaseValue → List (List Edit) → Type 0
CanAllFollow setup release [] = Unit {0}
CanAllFollow setup release (edits ∷ more) =
    Fit setup edits × CanFollow release edits
    × CanAllFollow setup (after_batch release (batch_of release edits)) more

-- a batch doesn't fit the setup, or it is refused on a release
abbrev pub DoesNotFollow : SetupValue → ReleaseValue → List Edit → Type 0
DoesNotFollow setup release edits =
    ¬ Fit setup edits
    ⊎ (kind : EditFaultKind) × (edit : ℕ) × (batch_refusal release edits ≡ Some (kind, edit))

-- edits can have a record: they have a payload, and it isn't too long
pub record HasRecord (edits : List Edit) : Type 0 where
  pub payload : IsPayload (spelled edits) edits
  pub short : length (spelled edits) ≤ MOST_PAYLOAD_BYTES

-- a gate of the file lies at this place, and before it the records of these batches
pub record LiesBehind (file : List ℕ) (place : ℕ) (batches : List (List Edit)) : Type 0 where
  pub gate : HasGate file place
  pub before : payloads_before place file ≡ map spelled batches
  pub each : AllByRecursion HasRecord batches

-- the file's next record there is that of these edits
pub record IsNextRecord (file : List ℕ) (place : ℕ) (edits : List Edit) : Type 0 where
  pub whole : IsRecord (drop place file)
  pub payload : IsPayload (payload_at (drop place file)) edits

-- how a file was played whose batches before this place were published on a release: they are all
-- for which it stands; or the record of number r, the next, is none or doesn't follow. That the
-- disk failed or memory was refused says nothing of the file
abbrev pub IsPlayed : SetupValue → ReleaseValue → Option (List ℕ) → ℕ → List (List Edit) → Played
    → Type 0
IsPlayed setup release content place batches played.All =
    WhereTold content (λ file. stands_for file ≡ map spelled batches)
IsPlayed setup release content place batches (played.BadRecord r) =
    (r ≡ length batches + 1) × WhereTold content (λ file. IsBad (drop place file))
IsPlayed setup release content place batches (played.DoesNotFollow r) =
    (r ≡ length batches + 1)
    × (edits : List Edit)
    × DoesNotFollow setup (release_after release (batches_of release batches)) edits
    × WhereTold content (λ file. IsNextRecord file place edits)
IsPlayed setup release content place batches played.DiskFault = Unit {0}
IsPlayed setup release content place batches played.Memory = Unit {0}

-- these batches, which a file has before this place, were published by a custodian
pub record ArePublished (setup : SetupValue) (content : Option (List ℕ)) (place : ℕ)
    (batches : List (List Edit)) (old new : CustodianValue) : Type 0 where
  pub behind : WhereTold content (λ file. LiesBehind file place batches)
  pub follow : CanAllFollow setup (release_seen old.writer) batches
  pub start : new.writer.start ≡ old.writer.start
  pub chain : new.writer.list ≡ old.writer.list ++ batches_of (release_seen old.writer) batches

-- a file was played: the batches before some place were published, and no more
pub record HasPlayed (setup : SetupValue) (content : Option (List ℕ)) (old new : CustodianValue)
    (result : Played) : Type 0 where
  pub batches : List (List Edit)
  pub place : ℕ
  pub published : ArePublished setup content place batches old new
  pub ends : IsPlayed setup (release_seen old.writer) content place batches result

-- ---- what the functions below `play` say

-- a batch was published; or it doesn't follow, or memory was refused, and all is as before
abbrev pub IsFollowed : SetupValue → CustodianValue → List Edit → Followed → CustodianValue → Type 0
IsFollowed setup old edits followed.Published new =
    Fit setup edits × CanFollow (release_seen old.writer) edits
    × (new ≡ after_publishing edits old) × (length new.writer.list ≤ MOST_RELEASES)
IsFollowed setup old edits followed.Refused new =
    DoesNotFollow setup (release_seen old.writer) edits × (new ≡ old)
IsFollowed setup old edits followed.Memory new = new ≡ old

-- the next batch was published, or playing ends there
abbrev pub PlaysNext : SetupValue → Option (List ℕ) → (record_number : ℕ) → (from to : JournalState)
    → (old new : CustodianValue) → Option Played → Type 0
PlaysNext setup content n from to old new None =
    (edits : List Edit)
    × IsFollowed setup old edits followed.Published new
    × WhereTold content (λ file. IsNextBatch file from to edits)
    × (to.read ≡ from.read + 1) × (to.live ≡ from.live) × (to.at_end ≡ from.at_end)
PlaysNext setup content n from to old new (Some played.All) =
    (new ≡ old) × WhereTold content (λ file. IsEnd file from)
    × (to ≡ record from { at_end = true })
PlaysNext setup content n from to old new (Some (played.BadRecord r)) =
    (new ≡ old) × (r ≡ from.read + 1) × WhereTold content (λ file. IsBad (drop from.place file))
PlaysNext setup content n from to old new (Some (played.DoesNotFollow r)) =
    (new ≡ old) × (r ≡ n)
    × (edits : List Edit)
    × DoesNotFollow setup (release_seen old.writer) edits
    × WhereTold content (λ file. IsNextBatch file from to edits)
PlaysNext setup content n from to old new (Some played.DiskFault) = new ≡ old
PlaysNext setup content n from to old new (Some played.Memory) = new ≡ old

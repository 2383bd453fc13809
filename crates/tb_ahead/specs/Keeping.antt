-- The replies of a party that writes its batches ahead of their publication, and what the file
-- stands for after a stop.
use Rattle.std.specs.Prelude.{◌≡◌, ◌⊎◌, ◌≤◌, ◌++◌, ◌∷◌, ℕ, Bool, true, false, List, [], codes}
use Rattle.std.specs.Prelude.{Option, Some, None, is_none}
use Rattle.tb_io.specs.Faults.{HasRisen}
use Rattle.tb_lines.specs.Outputs.{ReplyValue}
use Rattle.tb_model.specs.Releases.{ReleaseValue}
use Rattle.tb_release.specs.Batches.{CanFollow}
use Rattle.tb_release.specs.Chains.{release_after}
use Rattle.tb_release.specs.declared.edits.Edit.{Edit}
use Rattle.tb_tables.specs.ReplyLines.{memory_line}
use Rattle.tb_ahead.specs.Publishing.{IsBatchRefusal, IsPublished, StateValue}
use Rattle.tb_ahead.specs.Puts.{Since}

-- where such a party stands: its own state; the batches that it has written and published, with
-- those from before, each as the list of its edits; one further batch that the file may stand for
-- besides, of which there is one exactly where nothing is put any more; the disk's count of faults;
-- and since when it is watched what a stop may have left
pub record KeptState : Type 0 where
  pub state : StateValue
  pub batches : List (List Edit)
  pub further : Option (List Edit)
  pub faults : ℕ
  pub since : Since

-- a batch that is asked for, follows, and can't be kept
abbrev pub unkept_line : List ℕ
unkept_line = codes "unkept\n"

-- the held edits were put and published, while the journal was live, which it is still
abbrev pub IsPublishedAhead : ReleaseValue → KeptState → List ℕ → KeptState → Type 0
IsPublishedAhead release old text next =
    IsPublished release old.state text next.state
    × (old.further ≡ None) × (next.further ≡ None)
    × (next.batches ≡ old.batches ++ old.state.held ∷ [])

-- the file stands for what it did
abbrev pub IsNothingPut : KeptState → KeptState → Type 0
IsNothingPut old next = (next.batches ≡ old.batches) × (next.further ≡ old.further)

-- the journal was live, and from now on the held edits are the one further batch
abbrev pub IsClosed : KeptState → KeptState → Type 0
IsClosed old next =
    (old.further ≡ None) × (next.batches ≡ old.batches) × (next.further ≡ Some old.state.held)

-- the held edits can't follow: nothing is put
abbrev pub IsRefusedAhead : ReleaseValue → KeptState → List ℕ → KeptState → Type 0
IsRefusedAhead release old text next =
    IsBatchRefusal release old.state text next.state × IsNothingPut old next

-- they follow, and can't be kept, since the journal wasn't live, or since the disk's count rose;
-- they are held still
abbrev pub IsUnkept : ReleaseValue → KeptState → List ℕ → KeptState → Type 0
IsUnkept release old text next =
    CanFollow release old.state.held × (text ≡ unkept_line) × (next.state ≡ old.state)
    × ((is_none old.further ≡ false) × IsNothingPut old next
    ⊎ HasRisen old.faults next.faults × IsClosed old next)

-- memory was refused: before the put; or after it, and the journal isn't live any more; they are
-- held still
abbrev pub IsOutOfMemory : ReleaseValue → KeptState → List ℕ → KeptState → Type 0
IsOutOfMemory release old text next =
    (text ≡ memory_line) × (next.state ≡ old.state)
    × (IsNothingPut old next ⊎ CanFollow release old.state.held × IsClosed old next)

-- the reply to `publish`
abbrev pub IsKeptPublish : ReleaseValue → KeptState → List ℕ → KeptState → Type 0
IsKeptPublish release old text next =
    (old.faults ≤ next.faults) × (next.since ≡ old.since)
    × (IsPublishedAhead release old text next
    ⊎ (IsRefusedAhead release old text next
    ⊎ (IsUnkept release old text next
    ⊎ IsOutOfMemory release old text next)))

-- a line that asks to publish, or doesn't, leads from where the party stands to where it stands
-- then; to a line that doesn't, the reply is the party's own
abbrev pub IsKeptStep : Bool → (StateValue → List ℕ → ReplyValue → StateValue → Type 0)
    → ReleaseValue → KeptState → List ℕ → ReplyValue → KeptState → Type 0
IsKeptStep true Own base old line reply next =
    (reply.price ≡ 0)
    × IsKeptPublish (release_after base old.state.chain) old reply.text next
IsKeptStep false Own base old line reply next =
    Own old.state line reply next.state × (next ≡ record old { state = next.state })

-- The chain to which batches lead, each as the list of its edits.
use Rattle.std.specs.Prelude.{◌≡◌, ℕ, List, [], ◌∷◌}
use Rattle.tb_ahead.specs.Keeping.{IsKeptStep, KeptState}
use Rattle.tb_lines.specs.Outputs.{Lead, ReplyValue}
use Rattle.tb_model.specs.Releases.{ReleaseValue}
use Rattle.tb_model.specs.Setups.{SetupValue}
use Rattle.tb_release.specs.Batches.{BatchValue, batch_of}
use Rattle.tb_release.specs.Chains.{after_batch}
use Rattle.tb_release.specs.declared.edits.Edit.{Edit}
use Rattle.tb_keep.specs.Publishers.{IsOwnStep, asks_to_publish}

-- the batches of lists of edits, each on the release to which those before it led
abbrev pub batches_of : ReleaseValue → List (List Edit) → List BatchValue
batches_of release [] = []
batches_of release (edits ∷ more) =
    batch_of release edits ∷ batches_of (after_batch release (batch_of release edits)) more

-- a party's chain is that of the batches that it wrote and published, for which its file stands
abbrev pub IsTheirs : ReleaseValue → KeptState → Type 0
IsTheirs base at = at.state.chain ≡ batches_of base at.batches

-- a line of the custodian, who writes ahead, leads from where it stands to where it stands then
abbrev pub IsOwnKeptStep : SetupValue → ReleaseValue → KeptState → List ℕ → ReplyValue → KeptState
    → Type 0
IsOwnKeptStep setup base old line reply new =
    IsKeptStep (asks_to_publish line) (IsOwnStep setup base) base old line reply new

-- whatever lines are answered, the chain stays that of the batches, where each line is answered by
-- such a step over a setup and a release 0
abbrev pub StaysTheirs : {L : Type 0}
    → (SetupValue → ReleaseValue → KeptState → L → ReplyValue → KeptState → Type 0) → Type 0
StaysTheirs {L = L} Step =
    (setup : SetupValue) (base : ReleaseValue) (first last : KeptState) (lines : List L)
    (replies : List ReplyValue) → Lead (Step setup base) first lines replies last
    → IsTheirs base first → IsTheirs base last

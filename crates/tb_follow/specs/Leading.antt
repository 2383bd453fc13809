-- What a leader sends, and a follower that is led by it.
use Rattle.std.specs.Prelude.{◌≡◌, ◌+◌, ◌≤◌, ℕ, List, [], ◌∷◌, length, take, slice_get, Some}
use Rattle.std.specs.List.{AllByRecursion}
use Rattle.tb_model.specs.Releases.{ReleaseValue}
use Rattle.tb_release.specs.Batches.{BatchValue, CanFollow, batch_of}
use Rattle.tb_release.specs.Chains.{after_batch}
use Rattle.tb_release.specs.declared.edits.Edit.{Edit}
use Rattle.tb_follow.specs.Chains.{number_at}
use Rattle.tb_follow.specs.Followers.{FollowerValue}
use Rattle.tb_follow.specs.declared.message.Delivered.{Delivered}
use Rattle.tb_follow.specs.declared.message.Delivered.TheVariants as delivered
use Rattle.tb_follow.specs.declared.message.Message.{Message}

-- the release after some edits, by their batch
abbrev pub release_by : ReleaseValue → List Edit → ReleaseValue
release_by release edits = after_batch release (batch_of release edits)

-- the batches of lists of edits, each list on the release after those before it
abbrev pub chain_of : ReleaseValue → List (List Edit) → List BatchValue
chain_of base [] = []
chain_of base (edits ∷ lists) = batch_of base edits ∷ chain_of (release_by base edits) lists

-- each list of edits can follow the release after those before it
abbrev pub CanLead : ReleaseValue → List (List Edit) → Type 0
CanLead base [] = Unit {0}
CanLead base (edits ∷ lists) = CanFollow base edits × CanLead (release_by base edits) lists

-- a message is the leader's own: its number is that of the release to which its edits led
pub record IsOwn (lists : List (List Edit)) (message : Message) : Type 0 where
  pub place : ℕ
  pub number : message.number ≡ place + 1
  pub edits : slice_get lists place ≡ Some message.edits

-- a follower is led by a leader's lists of edits: its batches are the first of the leader's, and
-- what waits are the leader's own messages
pub record IsLed (lists : List (List Edit)) (f : FollowerValue) : Type 0 where
  pub within : number_at f.chain ≤ length lists
  pub batches : f.chain.batches ≡ take (number_at f.chain) (chain_of f.chain.base lists)
  pub window : AllByRecursion (IsOwn lists) f.window

-- no edits were refused
abbrev pub IsUnrefused : Delivered → Type 0
IsUnrefused (delivered.Applied number) = Unit {0}
IsUnrefused (delivered.Kept number) = Unit {0}
IsUnrefused (delivered.Old number) = Unit {0}
IsUnrefused (delivered.Far number) = Unit {0}
IsUnrefused (delivered.Refused edit kind) = ⊥
IsUnrefused delivered.Memory = Unit {0}

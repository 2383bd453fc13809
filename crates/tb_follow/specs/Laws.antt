-- The laws of a leader and its follower.
use Rattle.std.specs.Prelude.{◌≡◌, ◌≤◌, ℕ, All, List, length, take}
use Rattle.std.specs.List.{AllByRecursion}
use Rattle.tb_model.specs.Releases.{ReleaseValue}
use Rattle.tb_release.specs.Chains.{IsChain, release_after}
use Rattle.tb_release.specs.Laws.{EditFits}
use Rattle.tb_release.specs.declared.edits.Edit.{Edit}
use Rattle.tb_follow.specs.Chains.{number_at, release_at}
use Rattle.tb_follow.specs.Deliveries.{given}
use Rattle.tb_follow.specs.Followers.{FollowerValue, IsFollower}
use Rattle.tb_follow.specs.Leading.{CanLead, IsLed, IsOwn, IsUnrefused, chain_of}
use Rattle.tb_follow.specs.Worlds.{Event, World, run_of, start}
use Rattle.tb_follow.specs.declared.limits.TheConstants.{MOST_AHEAD}
use Rattle.tb_follow.specs.declared.message.Message.{Message}

-- the leader's batches are a chain on release 0, and their edits fit, so each may be delivered; the
-- follower is at release n of that chain, n being at most its length, by the same batches; what
-- waits in its window are the leader's own edits under their numbers, which are above n and not too
-- far; and no message was refused
pub record Trails (shape : List ℕ) (base : ReleaseValue) (w : World) : Type 0 where
  pub chain : IsChain base (chain_of base w.led)
  pub fit : AllByRecursion (All (EditFits shape)) w.led
  pub as_many : length (chain_of base w.led) ≡ length w.led
  pub within : number_at w.follower.chain ≤ length w.led
  pub batches : w.follower.chain.batches ≡ take (number_at w.follower.chain) (chain_of base w.led)
  pub release : release_at w.follower.chain
      ≡ release_after base (take (number_at w.follower.chain) (chain_of base w.led))
  pub window : AllByRecursion (IsOwn w.led) w.follower.window
  pub waiting : IsFollower w.follower
  pub unrefused : AllByRecursion IsUnrefused w.answers

-- so it is after every list of events
abbrev pub FollowersTrail : Type 0
FollowersTrail =
    (shape : List ℕ) (base : ReleaseValue) (events : List Event)
    → Trails shape base (run_of (start shape base) events)

-- a follower that is led stays so when a message of its leader is delivered, which isn't refused
abbrev pub MessagesLead : Type 0
MessagesLead =
    (lists : List (List Edit)) (room : ℕ) (f : FollowerValue) (message : Message)
    → CanLead f.chain.base lists → IsLed lists f → IsOwn lists message
    → IsLed lists (given room f message).follower × IsUnrefused (given room f message).answer

-- no more messages wait in a window than their numbers may lie ahead
abbrev pub FewWait : Type 0
FewWait = (f : FollowerValue) → IsFollower f → length f.window ≤ MOST_AHEAD

-- Where a leader's lane stands.
use Rattle.std.specs.Prelude.{◌≡◌, ℕ, List, Option, None}
use Rattle.std.specs.Option.{ForSome}
use Rattle.tb_model.specs.Releases.{ReleaseValue}
use Rattle.tb_follow.specs.Followers.{FollowerValue, at_base}
use Rattle.tb_follow.specs.Messages.{MessageFits}
use Rattle.tb_follow.specs.declared.message.Message.{Message}

-- the follower, and the message that is open, if there is one: it was begun, and isn't ended yet
pub record LaneValue : Type 0 where
  pub follower : FollowerValue
  pub open_message : Option Message

-- the same, of its two parts
abbrev pub lane_of : FollowerValue → Option Message → LaneValue
lane_of follower message = record { follower = follower; open_message = message }

-- a lane whose follower is at release 0
abbrev pub first_lane : List ℕ → ReleaseValue → LaneValue
first_lane shape base = lane_of (at_base shape base) None

-- a lane whose message is dropped, if one is open
abbrev pub without_message : LaneValue → LaneValue
without_message lane = lane_of lane.follower None

-- a lane is of a shape: its follower's, which the edits of the open message fit
pub record IsLaneOf (shape : List ℕ) (lane : LaneValue) : Type 0 where
  pub same : lane.follower.chain.shape ≡ shape
  pub fits : ForSome lane.open_message (MessageFits shape)

-- The chain of a board's custodian, and the messages that wait for it.
use Rattle.std.specs.Prelude.{ℕ, List, Option}
use Rattle.tb_board.specs.Holders.{HolderValue}
use Rattle.tb_follow.specs.Chains.{ChainValue}
use Rattle.tb_follow.specs.Followers.{IsFollower, follower}
use Rattle.tb_follow.specs.declared.message.Message.{Message}
use Rattle.tb_front.specs.Holders.{Name}
use Rattle.tb_leader.specs.Lanes.{LaneValue, lane_of}
use Rattle.tb_session.specs.Parties.{IsOwnerOf, seen_by}
use Rattle.tb_session.specs.declared.party.Party.{Party}

-- the chain that a holder of a board's front has seen
abbrev pub chain_seen : HolderValue → ChainValue
chain_seen seen =
    record { shape = seen.start.shape; base = seen.start.base; batches = seen.list }

-- where a mirror stands: the chain that the custodian's writer wrote, the messages that wait, and
-- the open message
abbrev pub standing : Party → List Message → Option Message → LaneValue
standing one window message = lane_of (follower (chain_seen (seen_by one)) window) message

-- the custodian of the front of this name, over this shape, with messages that may wait for it
pub record IsBoardFollower (name : Name) (shape : List ℕ) (one : Party) (window : List Message)
    : Type 0 where
  pub owner : IsOwnerOf name shape one
  pub waiting : IsFollower (follower (chain_seen (seen_by one)) window)

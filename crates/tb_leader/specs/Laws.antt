-- The law of a leader's lane.
use Rattle.std.specs.Prelude.{◌≡◌, ℕ, Bool, List}
use Rattle.std.specs.Option.{ForSome}
use Rattle.tb_ahead.specs.Publishing.{batch_refusal_line}
use Rattle.tb_follow.specs.Leading.{CanLead, IsLed, IsOwn}
use Rattle.tb_leader.specs.Lanes.{LaneValue}
use Rattle.tb_leader.specs.LeaderAsks.{asks_of}
use Rattle.tb_leader.specs.LeaderReplies.{IsLeaderStep}
use Rattle.tb_leader.specs.declared.asks.LeaderAsks.{LeaderAsks}
use Rattle.tb_leader.specs.declared.asks.LeaderAsks.TheVariants as asks
use Rattle.tb_lines.specs.Outputs.{ReplyValue}
use Rattle.tb_model.specs.Schemas.{SchemaValue}
use Rattle.tb_release.specs.declared.edits.Edit.{Edit}
use Rattle.tb_rows.specs.FaultNames.{FaultNameValue}

-- a line isn't forged: where it ends a message, that is the leader's own
abbrev pub IsGenuine : List (List Edit) → LaneValue → LeaderAsks → Type 0
IsGenuine lists lane asks.Nothing = Unit {0}
IsGenuine lists lane (asks.Begin n) = Unit {0}
IsGenuine lists lane asks.Edit = Unit {0}
IsGenuine lists lane asks.End = ForSome lane.open_message (IsOwn lists)
IsGenuine lists lane asks.Restart = Unit {0}
IsGenuine lists lane asks.Other = Unit {0}

-- the follower is still led by the leader, on the same release 0, and no batch was refused
pub record GoesOn (lists : List (List Edit)) (lane : LaneValue) (text : List ℕ)
    (next : LaneValue) : Type 0 where
  pub led : IsLed lists next.follower
  pub base : next.follower.chain.base ≡ lane.follower.chain.base
  pub unrefused : (edit : ℕ) (name : FaultNameValue) → ¬ (text ≡ batch_refusal_line edit name)

-- so it is after each line that isn't forged
abbrev pub LanesLead : Type 0
LanesLead =
    (lists : List (List Edit)) (restarts : Bool) (schema : SchemaValue) (lane next : LaneValue)
    (line : List ℕ) (reply : ReplyValue) → CanLead lane.follower.chain.base lists
    → IsLed lists lane.follower → IsGenuine lists lane (asks_of line)
    → IsLeaderStep restarts schema lane line reply next → GoesOn lists lane reply.text next

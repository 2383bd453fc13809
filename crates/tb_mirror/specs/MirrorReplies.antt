-- The replies to the lines at a mirror's first port. Nothing here speaks of the program.
use Rattle.std.specs.Prelude.{◌≡◌, ℕ, false, List}
use Rattle.tb_ahead.specs.Publishing.{StateValue, after_seeing}
use Rattle.tb_follow.specs.Chains.{number_at}
use Rattle.tb_leader.specs.Lanes.{LaneValue}
use Rattle.tb_leader.specs.LeaderReplies.{IsLeaderStep}
use Rattle.tb_leader.specs.ReplyLines.{at_line}
use Rattle.tb_lines.specs.Outputs.{ReplyValue}
use Rattle.tb_mirror.specs.MirrorAsks.{asks_of}
use Rattle.tb_mirror.specs.declared.asks.MirrorAsks.{MirrorAsks}
use Rattle.tb_mirror.specs.declared.asks.MirrorAsks.TheVariants as asks
use Rattle.tb_model.specs.Setups.{SetupValue}
use Rattle.tb_session.specs.Replies.{IsReply}
use Rattle.tb_session.specs.declared.party.Role.TheVariants as role
use Rattle.tb_tables.specs.Answers.{free_reply}

-- where a custodian would stand that has published a mirror's chain, and holds no edits
abbrev pub custodian_at : LaneValue → StateValue
custodian_at lane = after_seeing lane.follower.chain.batches

-- the reply to a line that asks for this, and where the mirror stands then: a chain, the messages
-- that wait, and the open message. Only the leader's lines change that, and a mirror can't go back
-- to release 0
abbrev pub IsReplyTo : MirrorAsks → SetupValue → LaneValue → List ℕ → ReplyValue → LaneValue
    → Type 0
IsReplyTo asks.Where setup lane line reply next =
    (reply ≡ free_reply (at_line (number_at lane.follower.chain))) × (next ≡ lane)
IsReplyTo asks.Custodian setup lane line reply next =
    IsReply role.Custodian setup lane.follower.chain.base (custodian_at lane) line reply
    (custodian_at lane)
    × (next ≡ lane)
IsReplyTo asks.Leader setup lane line reply next =
    IsLeaderStep false setup.schema lane line reply next

-- a line at the first port leads from where the mirror stands to where it stands then, with this
-- reply
abbrev pub IsMirrorStep : SetupValue → LaneValue → List ℕ → ReplyValue → LaneValue → Type 0
IsMirrorStep setup lane line reply next = IsReplyTo (asks_of line) setup lane line reply next

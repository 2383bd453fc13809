-- A lane can always go on: each line has a reply. So a first part of a run is one of a whole one.
use Rattle.std.proofs.Common.{ℕ, Bool, true, false, List, [], refl, inr}
use Rattle.std.specs.Prelude.{Option, Some, None}
use Rattle.tb_follow.specs.declared.message.Message.{Message}
use Rattle.tb_follow.specs.Deliveries.{given}
use Rattle.tb_follow.specs.Followers.{restarted}
use Rattle.tb_leader.specs.Lanes.{LaneValue, lane_of}
use Rattle.tb_leader.specs.LeaderAsks.{asks_of}
use Rattle.tb_leader.specs.LeaderReplies.{IsEditOf, IsEndOf, IsLeaderStep, IsReplyTo, IsRestart, answer_text}
use Rattle.tb_leader.specs.ReplyLines.{begun_line, refused_line, restarted_line}
use Rattle.tb_leader.specs.declared.asks.LeaderAsks.{LeaderAsks}
use Rattle.tb_leader.specs.declared.asks.LeaderAsks.TheVariants as asks
use Rattle.tb_lines.specs.Outputs.{ReplyValue}
use Rattle.tb_model.specs.Schemas.{SchemaValue}
use Rattle.tb_tables.specs.Answers.{free_reply}
use Rattle.tb_tables.specs.ReplyLines.{memory_line}

some_edit : (schema : SchemaValue) (line : List ℕ) (o : Option Message) → (text : List ℕ) × (next : Option Message) × IsEditOf schema line o text next
some_edit schema line None = (refused_line, None, (refl, refl))
some_edit schema line (Some m) = (memory_line, None, inr (inr refl))

some_end : (lane : LaneValue) (o : Option Message) → (text : List ℕ) × (next : LaneValue) × IsEndOf lane o text next
some_end lane None = (refused_line, lane, (refl, refl))
some_end lane (Some m) = (answer_text (given 0 lane.follower m).answer, lane_of (given 0 lane.follower m).follower None, (0, refl, refl))

some_restart : (restarts : Bool) (lane : LaneValue) → (text : List ℕ) × (next : LaneValue) × IsRestart restarts lane text next
some_restart true lane = (restarted_line, lane_of (restarted lane.follower) None, (refl, refl))
some_restart false lane = (refused_line, lane, (refl, refl))

some_by : (a : LeaderAsks) (restarts : Bool) (schema : SchemaValue) (lane : LaneValue) (line : List ℕ) → (text : List ℕ) × (next : LaneValue) × IsReplyTo a restarts schema lane line text next
some_by asks.Nothing restarts schema lane line = ([], lane, (refl, refl))
some_by (asks.Begin n) restarts schema lane line = (begun_line n, lane_of lane.follower (Some (record { number = n; edits = [] })), (refl, (refl, refl)))
some_by asks.Edit restarts schema lane line = let (text, next, is) = some_edit schema line lane.open_message in (text, lane_of lane.follower next, (refl, is))
some_by asks.End restarts schema lane line = some_end lane lane.open_message
some_by asks.Restart restarts schema lane line = some_restart restarts lane
some_by asks.Other restarts schema lane line = (refused_line, lane, (refl, refl))

pub some_reply : (restarts : Bool) (schema : SchemaValue) (lane : LaneValue) (line : List ℕ) → (reply : ReplyValue) × (next : LaneValue) × IsLeaderStep restarts schema lane line reply next
some_reply restarts schema lane line = let (text, next, is) = some_by (asks_of line) restarts schema lane line in (free_reply text, next, (refl, is))

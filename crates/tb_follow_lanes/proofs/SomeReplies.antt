-- Every line has some reply.
use Rattle.std.proofs.Common.{refl, ℕ, Bool, true, false, List, [], inr}
use Rattle.tb_describe.specs.Descriptions.{is_description}
use Rattle.tb_leader.specs.Lanes.{LaneValue}
use Rattle.tb_leader.proofs.Continuing.{some_reply}
use Rattle.tb_lines.specs.Lines.{is_passed_over}
use Rattle.tb_lines.specs.Outputs.{ReplyValue}
use Rattle.tb_model.specs.Releases.{ReleaseValue}
use Rattle.tb_model.specs.Setups.{SetupValue}
use Rattle.tb_script.specs.Scripts.{ScriptLine}
use Rattle.tb_tables.specs.Answers.{free_reply}
use Rattle.tb_tables.specs.ReplyLines.{memory_line}
use Rattle.tb_follow_lanes.specs.FollowRuns.{IsFollowReply, IsFollowStep, IsReplyUnless, release_of, speaker_of}
use Rattle.tb_follow_lanes.specs.declared.speaker.Speaker.{Speaker}
use Rattle.tb_follow_lanes.specs.declared.speaker.Speaker.TheVariants as speakers

-- an analyst's has none where it is passed over, and else may find no memory
some_unless : (passed describes : Bool) (setup : SetupValue) (release : ReleaseValue) (line : List ℕ) → (reply : ReplyValue) × IsReplyUnless passed describes setup release line reply
some_unless true describes setup release line = (free_reply [], refl)
some_unless false true setup release line = (free_reply memory_line, (refl, inr refl))
some_unless false false setup release line = (free_reply memory_line, inr (refl, inr refl))

some_step : (setup : SetupValue) (who : Speaker) (lane : LaneValue) (line : List ℕ) → (reply : ReplyValue) × (next : LaneValue) × IsFollowStep setup who lane line reply next
some_step setup speakers.Leader lane line = some_reply true setup.schema lane line
some_step setup speakers.Analyst lane line =
    let (reply, is) = some_unless (is_passed_over line) (is_description line) setup (release_of lane) line in
    (reply, lane, (refl, is))

pub some_follow_reply : (setup : SetupValue) (lane : LaneValue) (one : ScriptLine) → (reply : ReplyValue) × (next : LaneValue) × IsFollowReply setup lane one reply next
some_follow_reply setup lane one = some_step setup (speaker_of one.lane) lane one.line

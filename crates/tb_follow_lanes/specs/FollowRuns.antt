-- The replies to the lines of a script that is led: one lane brings the leader's messages, and
-- every other asks at the release that the follower has reached. Nothing here speaks of the
-- program.
use Rattle.std.specs.Prelude.{◌≡◌, if◌then◌else◌, ℕ, Bool, true, false, List, [], bytes_eq, codes}
use Rattle.std.specs.Prelude.{length}
use Rattle.tb_describe.specs.Descriptions.{IsDescription, is_description}
use Rattle.tb_follow.specs.Chains.{release_at}
use Rattle.tb_leader.specs.Lanes.{LaneValue}
use Rattle.tb_leader.specs.LeaderReplies.{IsLeaderStep}
use Rattle.tb_lines.specs.Lines.{is_passed_over}
use Rattle.tb_lines.specs.Outputs.{ReplyValue}
use Rattle.tb_model.specs.Releases.{ReleaseValue}
use Rattle.tb_model.specs.Setups.{SetupValue}
use Rattle.tb_script.specs.Scripts.{ScriptLine}
use Rattle.tb_tables.specs.Answers.{IsAnswer, free_reply}
use Rattle.tb_follow_lanes.specs.declared.speaker.Speaker.{Speaker}
use Rattle.tb_follow_lanes.specs.declared.speaker.Speaker.TheVariants as speakers

-- the lane `leader` is the leader's, and every other an analyst's
abbrev pub speaker_of : List ℕ → Speaker
speaker_of lane = if bytes_eq lane (codes "leader") then speakers.Leader else speakers.Analyst

-- the release that a lane's follower has reached
abbrev pub release_of : LaneValue → ReleaseValue
release_of lane = release_at lane.follower.chain

-- a reply to a line over a release, by whether `describe` begins it: then it is what may be asked,
-- and else that to a query's line, at the price of all records
abbrev pub IsDescriptionOr : Bool → SetupValue → ReleaseValue → List ℕ → ReplyValue → Type 0
IsDescriptionOr true setup release line reply = IsDescription setup.schema line reply
IsDescriptionOr false setup release line reply =
    IsAnswer setup release (λ query. length release.records) line reply

-- the same, by whether the line is passed over, too: then there is none
abbrev pub IsReplyUnless : Bool → Bool → SetupValue → ReleaseValue → List ℕ → ReplyValue → Type 0
IsReplyUnless true describes setup release line reply = reply ≡ free_reply []
IsReplyUnless false describes setup release line reply =
    IsDescriptionOr describes setup release line reply

-- a reply to an analyst's line over a release
abbrev pub IsAnalystReply : SetupValue → ReleaseValue → List ℕ → ReplyValue → Type 0
IsAnalystReply setup release line reply =
    IsReplyUnless (is_passed_over line) (is_description line) setup release line reply

-- a reply to a line of the leader's or of an analyst's, and where the lane stands then: an
-- analyst's line is answered over the release that was reached, and changes nothing
abbrev pub IsFollowStep : SetupValue → Speaker → LaneValue → List ℕ → ReplyValue → LaneValue
    → Type 0
IsFollowStep setup speakers.Leader lane line reply next =
    IsLeaderStep true setup.schema lane line reply next
IsFollowStep setup speakers.Analyst lane line reply next =
    (next ≡ lane) × IsAnalystReply setup (release_of lane) line reply

-- the same, of a line of a script
abbrev pub IsFollowReply : SetupValue → LaneValue → ScriptLine → ReplyValue → LaneValue → Type 0
IsFollowReply setup lane one reply next =
    IsFollowStep setup (speaker_of one.lane) lane one.line reply next

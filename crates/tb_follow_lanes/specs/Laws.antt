-- The laws of a script that is led.
use Rattle.std.specs.Prelude.{◌≡◌, ◌⊎◌, ◌≤◌, ℕ, List, false, length, take, true}
use Rattle.std.specs.List.{AllZip}
use Rattle.tb_ahead.specs.Publishing.{batch_refusal_line}
use Rattle.tb_describe.specs.Descriptions.{is_description}
use Rattle.tb_follow.specs.Leading.{CanLead, IsLed, chain_of}
use Rattle.tb_leader.specs.Lanes.{LaneValue}
use Rattle.tb_leader.specs.Laws.{IsGenuine}
use Rattle.tb_leader.specs.LeaderAsks.{asks_of}
use Rattle.tb_lines.specs.Lines.{is_passed_over}
use Rattle.tb_lines.specs.Outputs.{Lead, ReplyValue}
use Rattle.tb_model.specs.Releases.{ReleaseValue}
use Rattle.tb_model.specs.Setups.{SetupValue}
use Rattle.tb_release.specs.Chains.{release_after}
use Rattle.tb_release.specs.declared.edits.Edit.{Edit}
use Rattle.tb_rows.specs.FaultNames.{FaultNameValue}
use Rattle.tb_script.specs.Scripts.{ScriptLine}
use Rattle.tb_tables.specs.ReplyLines.{memory_line}
use Rattle.tb_follow_lanes.specs.FollowRuns.{IsAnalystReply, IsFollowReply, speaker_of}
use Rattle.tb_follow_lanes.specs.declared.speaker.Speaker.{Speaker}
use Rattle.tb_follow_lanes.specs.declared.speaker.Speaker.TheVariants as speakers

-- a line isn't forged: where it is the leader's and ends a message, that is the leader's own
abbrev pub IsGenuineBy : List (List Edit) → Speaker → LaneValue → List ℕ → Type 0
IsGenuineBy lists speakers.Leader lane line = IsGenuine lists lane (asks_of line)
IsGenuineBy lists speakers.Analyst lane line = Unit {0}

-- a reply to a line of a script that isn't forged, and where the lane stands then
abbrev pub IsGenuineReply : SetupValue → List (List Edit) → LaneValue → ScriptLine → ReplyValue
    → LaneValue → Type 0
IsGenuineReply setup lists lane one reply next =
    IsGenuineBy lists (speaker_of one.lane) lane one.line × IsFollowReply setup lane one reply next

-- a reply to an analyst's line is one over a release of the leader's chain on a release 0
abbrev pub IsOverChain : SetupValue → ReleaseValue → List (List Edit) → List ℕ → ReplyValue
    → Type 0
IsOverChain setup base lists line reply =
    (n : ℕ) × (n ≤ length lists)
    × IsAnalystReply setup (release_after base (take n (chain_of base lists))) line reply

-- a reply to the leader doesn't tell that a batch is refused, and one to an analyst is over a
-- release of the leader's chain
abbrev pub IsServedBy : SetupValue → ReleaseValue → List (List Edit) → Speaker → List ℕ
    → ReplyValue → Type 0
IsServedBy setup base lists speakers.Leader line reply =
    (edit : ℕ) (name : FaultNameValue) → ¬ (reply.text ≡ batch_refusal_line edit name)
IsServedBy setup base lists speakers.Analyst line reply = IsOverChain setup base lists line reply

-- the same, of a line of a script
abbrev pub IsServed : SetupValue → ReleaseValue → List (List Edit) → ScriptLine → ReplyValue
    → Type 0
IsServed setup base lists one reply =
    IsServedBy setup base lists (speaker_of one.lane) one.line reply

-- after some lines the follower is still led by the leader, on this release 0, and each line has
-- got such a reply
pub record StaysLed (setup : SetupValue) (base : ReleaseValue) (lists : List (List Edit))
    (lines : List ScriptLine) (replies : List ReplyValue) (last : LaneValue) : Type 0 where
  pub led : IsLed lists last.follower
  pub same : last.follower.chain.base ≡ base
  pub served : AllZip (IsServed setup base lists) lines replies

-- so it is of each script in which no line is forged, whatever memory is refused
abbrev pub ScriptsAreLed : Type 0
ScriptsAreLed =
    (setup : SetupValue) (lists : List (List Edit)) (lane last : LaneValue)
    (lines : List ScriptLine) (replies : List ReplyValue)
    → CanLead lane.follower.chain.base lists → IsLed lists lane.follower
    → Lead (IsGenuineReply setup lists) lane lines replies last
    → StaysLed setup lane.follower.chain.base lists lines replies last

-- in two worlds with equal schemas a line of an analyst's that `describe` begins gets the same
-- reply, but where memory was refused, whatever the releases
abbrev pub DescriptionsGoByTheSchema : Type 0
DescriptionsGoByTheSchema =
    (setup setup' : SetupValue) (release release' : ReleaseValue) (line : List ℕ)
    (reply reply' : ReplyValue)
    → setup.schema ≡ setup'.schema
    → is_passed_over line ≡ false → is_description line ≡ true
    → IsAnalystReply setup release line reply
    → IsAnalystReply setup' release' line reply'
    → (reply ≡ reply') ⊎ ((reply.text ≡ memory_line) ⊎ (reply'.text ≡ memory_line))

-- From who asks a line to its lane, and from one line to all.
use Rattle.std.proofs.Common.{◌≡◌, sym, subst, ℕ, true, List, [], ◌∷◌, Option, None}
use Rattle.tb_io.specs.declared.answers.Wrote.{Wrote}
use Rattle.tb_io.specs.declared.answers.Wrote.TheVariants as wrote
use Rattle.tb_follow.specs.Followers.{FollowerValue}
use Rattle.tb_follow.specs.declared.message.Message.{Message}
use Rattle.tb_leader.specs.Lanes.{LaneValue, lane_of}
use Rattle.tb_leader.specs.LeaderReplies.{IsLeaderStep}
use Rattle.tb_lines.specs.Lists.{IsListAnswered, StepBy}
use Rattle.tb_lines.specs.Moments.{IsReplied, Moment}
use Rattle.tb_lines.specs.Outputs.{AtPrice, Charged, Lead, ReplyValue, charged}
use Rattle.tb_model.specs.Schemas.{SchemaValue}
use Rattle.tb_model.specs.Setups.{SetupValue}
use Rattle.tb_script.specs.Scripts.{ScriptLine}
use Rattle.tb_follow_lanes.specs.FollowRuns.{IsFollowReply, IsFollowStep, speaker_of}
use Rattle.tb_follow_lanes.specs.declared.speaker.Speaker.{Speaker}
use Rattle.tb_follow_lanes.specs.declared.speaker.Speaker.TheVariants as speakers

-- a line of the leader's
pub leader_line : (setup : SetupValue) (schema : SchemaValue) (who : Speaker) (line : List ℕ) (w : Wrote) (old new : Moment LaneValue) → who ≡ speakers.Leader → schema ≡ setup.schema
    → IsReplied (IsLeaderStep true schema) line w old new → IsReplied (IsFollowStep setup who) line w old new
leader_line setup schema who line w old new is same h =
    let over : IsReplied (IsLeaderStep true setup.schema) line w old new = subst (λ (s : SchemaValue). IsReplied (IsLeaderStep true s) line w old new) same h in
    subst (λ (s : Speaker). IsReplied (IsFollowStep setup s) line w old new) (sym is) (record { reply = over.reply; step = over.step; written = over.written; cost = over.cost })

module _ (setup : SetupValue) where
  -- a step at a line, as who asks it
  abbrev Asked : LaneValue → ScriptLine → ReplyValue → LaneValue → Type 0
  Asked = StepBy (λ (one : ScriptLine) (who : Speaker). who ≡ speaker_of one.lane) (λ (one : ScriptLine). one.line) (λ (who : Speaker). IsFollowStep setup who)

  asked_legal : (p : Charged LaneValue) (lines : List ScriptLine) (replies : List ReplyValue) (q : Charged LaneValue) → Lead (AtPrice Asked) p lines replies q → Lead (AtPrice (IsFollowReply setup)) p lines replies q
  asked_legal p [] [] q e = e
  asked_legal p [] (reply ∷ replies) q e = absurd e
  asked_legal p (line ∷ lines) [] q e = absurd e
  asked_legal p (line ∷ lines) (reply ∷ replies) q (next, ((who, asks, is), cost), others) = (
    next,
    (subst (λ (w : Speaker). IsFollowStep setup w p.at line.line reply next.at) asks is, cost),
    asked_legal next lines replies q others,
  )

  -- what became of all lines, by how it ended
  pub asked_lanes : (end : Wrote) (lines : List ScriptLine) (first last : Charged LaneValue) (a b : Option (List ℕ)) → IsListAnswered (Lead (AtPrice Asked)) end lines first last a b
      → IsListAnswered (Lead (AtPrice (IsFollowReply setup))) end lines first last a b
  asked_lanes wrote.All lines first last a b h = record { replies = h.replies; legal = asked_legal _ _ _ _ h.legal; took = h.took }
  asked_lanes wrote.Failed lines first last a b h = record { count = h.count; among = h.among; replies = h.replies; cut = h.cut; legal = asked_legal _ _ _ _ h.legal; part = h.part; took = h.took }

  -- the same, from a lane that was made of a follower
  pub asked_from : (follower made : FollowerValue) (message : Option Message) (p : ℕ) (end : Wrote) (lines : List ScriptLine) (last : Charged LaneValue) (a b : Option (List ℕ)) → made ≡ follower → message ≡ None
      → IsListAnswered (Lead (AtPrice Asked)) end lines (charged (lane_of made message) p) last a b → IsListAnswered (Lead (AtPrice (IsFollowReply setup))) end lines (charged (lane_of follower None) p) last a b
  asked_from follower made message p end lines last a b same none h =
      let first : lane_of made message ≡ lane_of follower None = λ i. lane_of (same i) (none i) in
      subst (λ (l : LaneValue). IsListAnswered (Lead (AtPrice (IsFollowReply setup))) end lines (charged l p) last a b) first (asked_lanes end lines (charged (lane_of made message) p) last a b h)

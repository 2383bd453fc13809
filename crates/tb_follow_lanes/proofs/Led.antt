-- A script whose leader's lines aren't forged.
use Rattle.std.proofs.Common.{◌≡◌, sym, ap, subst, ℕ, List, [], ◌∷◌, true}
use Rattle.tb_follow.specs.Chains.{number_at}
use Rattle.tb_follow.specs.Leading.{CanLead, IsLed}
use Rattle.tb_leader.specs.Lanes.{LaneValue}
use Rattle.tb_leader.proofs.Leading.{lanes_lead}
use Rattle.tb_lines.specs.Outputs.{Lead, ReplyValue}
use Rattle.tb_model.specs.Releases.{ReleaseValue}
use Rattle.tb_model.specs.Setups.{SetupValue}
use Rattle.tb_release.specs.Chains.{release_after}
use Rattle.tb_release.specs.declared.edits.Edit.{Edit}
use Rattle.tb_script.specs.Scripts.{ScriptLine}
use Rattle.tb_follow_lanes.specs.FollowRuns.{IsAnalystReply, IsFollowStep, speaker_of}
use Rattle.tb_follow_lanes.specs.Laws.{IsGenuineBy, IsGenuineReply, IsServedBy, StaysLed}
use Rattle.tb_follow_lanes.specs.declared.speaker.Speaker.{Speaker}
use Rattle.tb_follow_lanes.specs.declared.speaker.Speaker.TheVariants as speakers

-- ---- one line
-- the follower is led after it, on the same release 0, and the reply is one over the leader's chain
record GoesOn (setup : SetupValue) (lists : List (List Edit)) (who : Speaker) (lane : LaneValue) (line : List ℕ) (reply : ReplyValue) (next : LaneValue) : Type 0 where
  led : IsLed lists next.follower
  same : next.follower.chain.base ≡ lane.follower.chain.base
  served : IsServedBy setup lane.follower.chain.base lists who line reply

module _ (setup : SetupValue) (lists : List (List Edit)) where
  one_line : (who : Speaker) (lane next : LaneValue) (line : List ℕ) (reply : ReplyValue) → CanLead lane.follower.chain.base lists → IsLed lists lane.follower
      → IsGenuineBy lists who lane line → IsFollowStep setup who lane line reply next → GoesOn setup lists who lane line reply next
  one_line speakers.Leader lane next line reply can led genuine step =
      let goes = lanes_lead lists true setup.schema lane next line reply can led genuine step in
      record { led = goes.led; same = goes.base; served = goes.unrefused }
  one_line speakers.Analyst lane next line reply can led genuine (stays, is) =
      let chain = lane.follower.chain in
      let reached = ap (release_after chain.base) led.batches in record {
        led = subst (λ (l : LaneValue). IsLed lists l.follower) (sym stays) led;
        same = ap (λ (l : LaneValue). l.follower.chain.base) stays;
        served = (number_at chain, led.within, subst (λ (r : ReleaseValue). IsAnalystReply setup r line reply) reached is);
      }

  -- ---- all lines
  -- the line in front and those after it, from where the lane stood
  and_then : (one : ScriptLine) (lane next last : LaneValue) (lines : List ScriptLine) (reply : ReplyValue) (replies : List ReplyValue) → GoesOn setup lists (speaker_of one.lane) lane one.line reply next
      → StaysLed setup next.follower.chain.base lists lines replies last → StaysLed setup lane.follower.chain.base lists (one ∷ lines) (reply ∷ replies) last
  and_then one lane next last lines reply replies goes rest =
      let here : StaysLed setup lane.follower.chain.base lists lines replies last = subst (λ (base : ReleaseValue). StaysLed setup base lists lines replies last) goes.same rest in
      record { led = here.led; same = here.same; served = (goes.served, here.served) }

  pub stays_led : (lane last : LaneValue) (lines : List ScriptLine) (replies : List ReplyValue) → CanLead lane.follower.chain.base lists → IsLed lists lane.follower
      → Lead (IsGenuineReply setup lists) lane lines replies last → StaysLed setup lane.follower.chain.base lists lines replies last
  stays_led lane last [] [] can led e = record {
    led = subst (λ (l : LaneValue). IsLed lists l.follower) (sym e) led;
    same = ap (λ (l : LaneValue). l.follower.chain.base) e;
    served = tt;
  }
  stays_led lane last [] (reply ∷ replies) can led e = absurd e
  stays_led lane last (one ∷ lines) [] can led e = absurd e
  stays_led lane last (one ∷ lines) (reply ∷ replies) can led (next, (genuine, step), others) =
      let goes = one_line (speaker_of one.lane) lane next one.line reply can led genuine step in
      let rest = stays_led next last lines replies (subst (λ (base : ReleaseValue). CanLead base lists) (sym goes.same) can) goes.led others in
      and_then one lane next last lines reply replies goes rest

pub scripts_are_led : (setup : SetupValue) (lists : List (List Edit)) (lane last : LaneValue) (lines : List ScriptLine) (replies : List ReplyValue) → CanLead lane.follower.chain.base lists → IsLed lists lane.follower
    → Lead (IsGenuineReply setup lists) lane lines replies last → StaysLed setup lane.follower.chain.base lists lines replies last
scripts_are_led setup lists lane last lines replies can led lead = stays_led setup lists lane last lines replies can led lead

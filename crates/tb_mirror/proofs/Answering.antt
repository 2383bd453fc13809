-- What a reply of the custodian's is to a mirror.
use Rattle.std.proofs.Common.{◌≡◌, ◌∙◌, ap, arith, subst, sym, refl, ℕ, Bool, true, false, List, None, Option}
use Rattle.std.specs.Prelude.{if◌then◌else◌}
use Rattle.tb_ahead.specs.Publishing.{StateValue, after_seeing}
use Rattle.tb_base.specs.Words.{words_of}
use Rattle.tb_board.specs.Holders.{HolderValue}
use Rattle.tb_follow.specs.Chains.{number_at}
use Rattle.tb_follow.specs.Followers.{IsFollower, follower}
use Rattle.tb_follow.specs.declared.message.Message.{Message}
use Rattle.tb_front.specs.Holders.{Name}
use Rattle.tb_io.specs.declared.answers.Wrote.{Wrote}
use Rattle.tb_io.specs.Taken.{IsWritten}
use Rattle.tb_leader.specs.Lanes.{IsLaneOf, LaneValue, lane_of}
use Rattle.tb_leader.specs.LeaderReplies.{IsLeaderStep}
use Rattle.tb_leader.specs.ReplyLines.{at_line}
use Rattle.tb_lines.specs.Moments.{IsReplied, moment}
use Rattle.tb_lines.specs.Outputs.{ReplyValue}
use Rattle.tb_model.specs.Releases.{ReleaseValue}
use Rattle.tb_model.specs.Schemas.{SchemaValue, shape_of}
use Rattle.tb_model.specs.Setups.{SetupValue}
use Rattle.tb_session.specs.Asks as sessions
use Rattle.tb_session.specs.Parties.{GoesOn, IsAnswered, IsOwnerOf, IsPartyOf, role_of, seen_by, state_of}
use Rattle.tb_session.specs.Replies as replies
use Rattle.tb_session.specs.declared.asks.Asks.{Asks}
use Rattle.tb_session.specs.declared.asks.Asks.TheVariants as party_asks
use Rattle.tb_session.specs.declared.party.Party.{Party}
use Rattle.tb_session.specs.declared.party.Party.TheVariants as party
use Rattle.tb_session.specs.declared.party.Role.{Role}
use Rattle.tb_session.specs.declared.party.Role.TheVariants as role
use Rattle.tb_tables.specs.Answers.{free_reply}
use Rattle.tb_mirror.specs.BoardChains.{IsBoardFollower, chain_seen, standing}
use Rattle.tb_mirror.specs.MirrorAsks.{asks_by, asks_of, is_where}
use Rattle.tb_mirror.specs.MirrorReplies.{IsMirrorStep, IsReplyTo}
use Rattle.tb_mirror.specs.declared.asks.MirrorAsks.{MirrorAsks}
use Rattle.tb_mirror.specs.declared.asks.MirrorAsks.TheVariants as asks

-- a line that asks what the custodian may asks the custodian for the same
not_where : (w : Bool) (a : MirrorAsks) → (if w then asks.Where else a) ≡ asks.Custodian → a ≡ asks.Custodian
not_where true a is = absurd (cc (is))
not_where false a is = is

pub as_custodians : (line : List ℕ) → asks_of line ≡ asks.Custodian → asks_by (sessions.asks_of role.Custodian line) ≡ asks.Custodian
as_custodians line is = not_where (is_where (words_of line)) (asks_by (sessions.asks_of role.Custodian line)) is

-- its reply leads nowhere else, and is the same whatever edits are held
by_asks : (a : Asks) (setup : SetupValue) (base other : ReleaseValue) (state next : StateValue) (line : List ℕ) (reply : ReplyValue) → asks_by a ≡ asks.Custodian → replies.IsReplyTo a setup base state line reply next
    → (next.chain ≡ state.chain) × replies.IsReplyTo a setup other (after_seeing state.chain) line reply (after_seeing state.chain)
by_asks party_asks.Nothing setup base other state next line reply of is = absurd (cc (of))
by_asks party_asks.Description setup base other state next line reply of is = absurd (cc (of))
by_asks party_asks.Table setup base other state next line reply of is = absurd (cc (of))
by_asks (party_asks.At n) setup base other state next line reply of is = absurd (cc (of))
by_asks party_asks.Edit setup base other state next line reply of is = absurd (cc (of))
by_asks party_asks.Publish setup base other state next line reply of is = absurd (cc (of))
by_asks party_asks.Stats setup base other state next line reply of is = (ap (λ (s : StateValue). s.chain) is.2, (is.0, is.1, refl))
by_asks party_asks.Clear setup base other state next line reply of is = (ap (λ (s : StateValue). s.chain) is.1, (is.0, refl))
by_asks (party_asks.Cache k) setup base other state next line reply of is = (ap (λ (s : StateValue). s.chain) is.2, (is.0, is.1, refl))

-- a party that goes on with the same batches has seen the same
same_seen : (old new : Party) → GoesOn old new → (seen_by new).list ≡ (seen_by old).list → seen_by new ≡ seen_by old
same_seen old new goes list = λ i. record { name = goes.front i; start = goes.start i; list = list i }

-- the custodian still is
pub still_owner : (name : Name) (shape : List ℕ) (p : Party) → role_of p ≡ role.Custodian → IsPartyOf name shape p → IsOwnerOf name shape p
still_owner name shape (party.Analyst pass) who is = absurd (cc (who))
still_owner name shape (party.Custodian custodian held) who is = is

pub owner_role : (name : Name) (shape : List ℕ) (p : Party) → IsOwnerOf name shape p → role_of p ≡ role.Custodian
owner_role name shape (party.Analyst pass) is = absurd is
owner_role name shape (party.Custodian custodian held) is = refl

pub owner_party : (name : Name) (shape : List ℕ) (p : Party) → IsOwnerOf name shape p → IsPartyOf name shape p
owner_party name shape (party.Analyst pass) is = absurd is
owner_party name shape (party.Custodian custodian held) is = is

-- what `answer` says of the custodian's line, where the mirror takes that
module _ (name : Name) (shape : List ℕ) (setup : SetupValue) (new : Party) (line : List ℕ) (result : Wrote) (faults faults' : ℕ) (taken taken' : Option (List ℕ)) (before after : ℕ) (window : List Message)
    (message : Option Message) where
  pub answered : (old : Party) → IsOwnerOf name shape old → asks_of line ≡ asks.Custodian → IsAnswered setup old line new result faults faults' taken taken' before after
      → (seen_by new ≡ seen_by old)
      × IsReplied (IsMirrorStep setup) line result (moment (standing old window message) before taken faults) (moment (standing new window message) after taken' faults')
  answered (party.Analyst pass) is of done = absurd is
  answered (party.Custodian custodian held) is of done =
      let old : Party = party.Custodian custodian held in
      let base = (seen_by old).start.base in
      let (at, sees, reply) = done.step in
      let now : replies.IsReplyTo (sessions.asks_of role.Custodian line) setup base (state_of old) line done.reply (state_of new) =
      subst (λ (s : StateValue). replies.IsReplyTo (sessions.asks_of role.Custodian line) setup base s line done.reply (state_of new)) sees reply in
      let (stays, to) = by_asks (sessions.asks_of role.Custodian line) setup base base (state_of old) (state_of new) line done.reply (as_custodians line of) now in
      let seen = same_seen old new done.goes_on stays in
      let lane = standing old window message in
      let next : standing new window message ≡ lane = ap (λ (h : HolderValue). lane_of (follower (chain_seen h) window) message) seen in (
        seen,
        record {
          reply = done.reply;
          step = subst (λ (a : MirrorAsks). IsReplyTo a setup lane line done.reply (standing new window message)) (sym of) (to, next);
          written = done.written;
          cost = done.cost;
        },
      )

-- the reply to `where`
pub told_where : (setup : SetupValue) (line : List ℕ) (lane : LaneValue) (result : Wrote) (faults faults' : ℕ) (taken taken' : Option (List ℕ)) (steps : ℕ) → asks_of line ≡ asks.Where
    → IsWritten result faults faults' taken taken' (at_line (number_at lane.follower.chain)) → IsReplied (IsMirrorStep setup) line result (moment lane steps taken faults) (moment lane steps taken' faults')
told_where setup line lane result faults faults' taken taken' steps is written = record {
  reply = free_reply (at_line (number_at lane.follower.chain));
  step = subst (λ (a : MirrorAsks). IsReplyTo a setup lane line (free_reply (at_line (number_at lane.follower.chain))) lane) (sym is) (refl, refl);
  written = written;
  cost = omega arith;
}

-- the reply to a line of the leader's
pub told_leader : (setup : SetupValue) (schema : SchemaValue) (line : List ℕ) (lane next : LaneValue) (result : Wrote) (faults faults' : ℕ) (taken taken' : Option (List ℕ)) (steps : ℕ) → schema ≡ setup.schema
    → asks_of line ≡ asks.Leader → IsReplied (IsLeaderStep false schema) line result (moment lane steps taken faults) (moment next steps taken' faults') → IsReplied (IsMirrorStep setup) line result (moment lane steps taken faults) (moment next steps taken' faults')
told_leader setup schema line lane next result faults faults' taken taken' steps same is done = record {
  reply = done.reply;
  step = subst (λ (a : MirrorAsks). IsReplyTo a setup lane line done.reply next) (sym is)
      (subst (λ (s : SchemaValue). IsLeaderStep false s lane line done.reply next) same done.step);
  written = done.written;
  cost = done.cost;
}

-- who follows on a board still does where it has seen the same
pub same_follower : (name : Name) (shape : List ℕ) (old new : Party) (window : List Message) → IsOwnerOf name shape new → seen_by new ≡ seen_by old → IsBoardFollower name shape old window → IsBoardFollower name shape new window
same_follower name shape old new window own same is = record {
  owner = own;
  waiting = subst (λ (h : HolderValue). IsFollower (follower (chain_seen h) window)) (sym same) is.waiting;
}

-- and its lane is of the same shape
pub same_lane : (shape : List ℕ) (old new : Party) (window : List Message) (message : Option Message) → seen_by new ≡ seen_by old → IsLaneOf shape (standing old window message) → IsLaneOf shape (standing new window message)
same_lane shape old new window message same of = subst (λ (h : HolderValue). IsLaneOf shape (lane_of (follower (chain_seen h) window) message)) (sym same) of

-- without an open message it still is
pub lane_without : (shape : List ℕ) (one : Party) (window : List Message) (message : Option Message) → IsLaneOf shape (standing one window message) → IsLaneOf shape (standing one window None)
lane_without shape one window message of = record { same = of.same; fits = λ m e. absurd (cc (e)) }

-- nor is it another where the schema is the same
pub lane_over : (schema other : SchemaValue) (lane : LaneValue) → schema ≡ other → IsLaneOf (shape_of schema) lane → IsLaneOf (shape_of other) lane
lane_over schema other lane same of = subst (λ (s : SchemaValue). IsLaneOf (shape_of s) lane) same of

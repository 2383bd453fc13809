-- A follower is led by a leader's lines that aren't forged.
use Rattle.std.proofs.Common.{◌≡◌, ℕ, Bool, true, false, List, [], refl, sym, ap, subst, ◌∙◌, inl, inr}
use Rattle.std.specs.Prelude.{Option, Some, None}
use Rattle.std.specs.Option.{ForSome}
use Rattle.tb_follow.specs.declared.message.Message.{Message}
use Rattle.tb_follow.specs.Deliveries.{given}
use Rattle.tb_follow.specs.Followers.{FollowerValue}
use Rattle.tb_follow.specs.Leading.{CanLead, IsLed, IsOwn}
use Rattle.tb_follow.proofs.Keeping.{given-stays}
use Rattle.tb_follow.proofs.Led.{messages_lead}
use Rattle.tb_follow.proofs.Trailing.{at-base-led}
use Rattle.tb_leader.specs.Lanes.{LaneValue}
use Rattle.tb_leader.specs.Laws.{GoesOn, IsGenuine}
use Rattle.tb_leader.specs.LeaderAsks.{asks_of}
use Rattle.tb_leader.specs.LeaderReplies.{IsEditOf, IsEditReply, IsEndOf, IsLeaderStep, IsReplyTo, IsRestart, answer_text}
use Rattle.tb_leader.specs.ReplyLines.{begun_line, edit_refusal_line, held_line, refused_line, restarted_line}
use Rattle.tb_leader.specs.declared.asks.LeaderAsks.{LeaderAsks}
use Rattle.tb_leader.specs.declared.asks.LeaderAsks.TheVariants as asks
use Rattle.tb_lines.specs.Outputs.{ReplyValue}
use Rattle.tb_model.specs.Schemas.{SchemaValue}
use Rattle.tb_release.specs.declared.edits.Edit.{Edit}
use Rattle.tb_revise.specs.FaultNames.{too_many}
use Rattle.tb_tables.specs.ReplyLines.{memory_line}
use Rattle.tb_leader.proofs.Texts.{IsNoRefusal, begun_is_none, edit_is_none, empty_is_none, held_is_none, memory_is_none, refused_is_none, restarted_is_none, same_text, unrefused_is_none}

-- a lane whose follower is the same
same-led : (lists : List (List Edit)) (lane next : LaneValue) (text : List ℕ) → next.follower ≡ lane.follower → IsNoRefusal text → IsLed lists lane.follower → GoesOn lists lane text next
same-led lists lane next text same none led = record {
  led = subst (IsLed lists) (sym same) led;
  base = ap (λ (f : FollowerValue). f.chain.base) same;
  unrefused = none;
}

refused-led : (lists : List (List Edit)) (lane next : LaneValue) (text : List ℕ) → text ≡ refused_line → next ≡ lane → IsLed lists lane.follower → GoesOn lists lane text next
refused-led lists lane next text is same led = same-led lists lane next text (ap (λ (l : LaneValue). l.follower) same) (same_text text refused_line is refused_is_none) led

-- an edit's line isn't answered so
edit-none : (schema : SchemaValue) (line text : List ℕ) (m : Message) (next : Option Message) → IsEditReply schema line m text next → IsNoRefusal text
edit-none schema line text m (Some after) (edit, reads, few, is, same) = same_text text (held_line _) is (held_is_none _)
edit-none schema line text m None (inl (fault, name, refused, named, is)) = same_text text (edit_refusal_line name) is (edit_is_none name)
edit-none schema line text m None (inr (inl (edit, reads, full, is))) = same_text text (edit_refusal_line too_many) is (edit_is_none too_many)
edit-none schema line text m None (inr (inr is)) = same_text text memory_line is memory_is_none

edit-of-none : (schema : SchemaValue) (line text : List ℕ) (o next : Option Message) → IsEditOf schema line o text next → IsNoRefusal text
edit-of-none schema line text None next is = same_text text refused_line is.0 refused_is_none
edit-of-none schema line text (Some m) next is = edit-none schema line text m next is

end-led : (lists : List (List Edit)) (lane next : LaneValue) (text : List ℕ) (o : Option Message) → lane.open_message ≡ o → CanLead lane.follower.chain.base lists → IsLed lists lane.follower
    → ForSome lane.open_message (IsOwn lists) → IsEndOf lane o text next → GoesOn lists lane text next
end-led lists lane next text None there can led genuine is = refused-led lists lane next text is.0 is.1 led
end-led lists lane next text (Some m) there can led genuine is =
    let chain = lane.follower.chain in
    let good = messages_lead lists is.0 lane.follower m can led (genuine m there) in
    let stays = given-stays chain.shape chain.base is.0 lane.follower m (refl, refl) in
    let same = ap (λ (l : LaneValue). l.follower) is.2 in record {
      led = subst (IsLed lists) (sym same) good.0;
      base = ap (λ (f : FollowerValue). f.chain.base) same ∙ stays.1;
      unrefused = same_text text (answer_text (given is.0 lane.follower m).answer) is.1 (unrefused_is_none (given is.0 lane.follower m).answer good.1);
    }

restart-led : (lists : List (List Edit)) (restarts : Bool) (lane next : LaneValue) (text : List ℕ) → IsLed lists lane.follower → IsRestart restarts lane text next → GoesOn lists lane text next
restart-led lists true lane next text led is =
    let same = ap (λ (l : LaneValue). l.follower) is.1 in record {
      led = subst (IsLed lists) (sym same) (at-base-led lists lane.follower.chain.shape lane.follower.chain.base);
      base = ap (λ (f : FollowerValue). f.chain.base) same;
      unrefused = same_text text restarted_line is.0 restarted_is_none;
    }
restart-led lists false lane next text led is = refused-led lists lane next text is.0 is.1 led

by_asks : (lists : List (List Edit)) (restarts : Bool) (schema : SchemaValue) (lane next : LaneValue) (line text : List ℕ) (a : LeaderAsks) → CanLead lane.follower.chain.base lists
    → IsLed lists lane.follower → IsGenuine lists lane a → IsReplyTo a restarts schema lane line text next → GoesOn lists lane text next
by_asks lists restarts schema lane next line text asks.Nothing can led genuine is = same-led lists lane next text (ap (λ (l : LaneValue). l.follower) is.1) (same_text text [] is.0 empty_is_none) led
by_asks lists restarts schema lane next line text (asks.Begin n) can led genuine is = same-led lists lane next text is.0 (same_text text (begun_line n) is.1.0 (begun_is_none n)) led
by_asks lists restarts schema lane next line text asks.Edit can led genuine is =
    same-led lists lane next text is.0 (edit-of-none schema line text lane.open_message next.open_message is.1) led
by_asks lists restarts schema lane next line text asks.End can led genuine is = end-led lists lane next text lane.open_message refl can led genuine is
by_asks lists restarts schema lane next line text asks.Restart can led genuine is = restart-led lists restarts lane next text led is
by_asks lists restarts schema lane next line text asks.Other can led genuine is = refused-led lists lane next text is.0 is.1 led

pub lanes_lead : (lists : List (List Edit)) (restarts : Bool) (schema : SchemaValue) (lane next : LaneValue) (line : List ℕ) (reply : ReplyValue) → CanLead lane.follower.chain.base lists
    → IsLed lists lane.follower → IsGenuine lists lane (asks_of line) → IsLeaderStep restarts schema lane line reply next → GoesOn lists lane reply.text next
lanes_lead lists restarts schema lane next line reply can led genuine is = by_asks lists restarts schema lane next line reply.text (asks_of line) can led genuine is.1

-- An analyst's line, by whether it is passed over, and whether `describe` begins it.
use Rattle.std.proofs.Common.{◌≡◌, refl, subst, ℕ, Bool, true, false, List, [], length, Option, arith}
use Rattle.tb_io.specs.Taken.{IsWritten}
use Rattle.tb_io.specs.declared.answers.Wrote.{Wrote}
use Rattle.tb_io.specs.declared.answers.Wrote.TheVariants as wrote
use Rattle.tb_io.proofs.Written.{all_written}
use Rattle.tb_io.proofs.TakenLemmas.{Took-nothing}
use Rattle.tb_describe.specs.Descriptions.{Describes, is_description}
use Rattle.tb_leader.specs.Lanes.{LaneValue}
use Rattle.tb_lines.specs.Lines.{is_passed_over}
use Rattle.tb_lines.specs.Moments.{IsReplied, moment}
use Rattle.tb_lines.specs.Outputs.{ReplyValue}
use Rattle.tb_model.specs.Setups.{SetupValue}
use Rattle.tb_tables.specs.Answers.{Answers, free_reply}
use Rattle.tb_follow_lanes.specs.FollowRuns.{IsAnalystReply, IsFollowStep, IsReplyUnless, IsDescriptionOr, release_of}
use Rattle.tb_follow_lanes.specs.declared.speaker.Speaker.TheVariants as speakers

module _ (setup : SetupValue) (lane : LaneValue) (line : List ℕ) (before : ℕ) (f : ℕ) (t : Option (List ℕ)) where
  -- it has no reply, and nothing is written
  pub passed_over : true ≡ is_passed_over line → IsReplied (IsFollowStep setup speakers.Analyst) line wrote.All (moment lane before t f) (moment lane before t f)
  passed_over passed = record {
    reply = free_reply [];
    step = (refl, subst (λ (b : Bool). IsReplyUnless b (is_description line) setup (release_of lane) line (free_reply [])) passed refl);
    written = all_written f f t t [] (omega arith) (Took-nothing t);
    cost = omega arith;
  }

  -- what it asks for, where it isn't passed over
  here : (describes : Bool) (reply : ReplyValue) → false ≡ is_passed_over line → describes ≡ is_description line → IsDescriptionOr describes setup (release_of lane) line reply → IsAnalystReply setup (release_of lane) line reply
  here describes reply asked begins is =
      let told : IsReplyUnless false (is_description line) setup (release_of lane) line reply = subst (λ (b : Bool). IsDescriptionOr b setup (release_of lane) line reply) begins is in
      subst (λ (b : Bool). IsReplyUnless b (is_description line) setup (release_of lane) line reply) asked told

  -- it is told what may be asked
  pub described : (w : Wrote) (text : List ℕ) (f' : ℕ) (t' : Option (List ℕ)) → false ≡ is_passed_over line → true ≡ is_description line → Describes setup.schema line text
      → IsWritten w f f' t t' text → IsReplied (IsFollowStep setup speakers.Analyst) line w (moment lane before t f) (moment lane before t' f')
  described w text f' t' asked begins is written = record {
    reply = free_reply text;
    step = (refl, here true (free_reply text) asked begins (refl, is));
    written = written;
    cost = omega arith;
  }

  -- it is answered over the release that was reached, and that is written
  pub answered : (w : Wrote) (text : List ℕ) (after f' : ℕ) (t' : Option (List ℕ)) → false ≡ is_passed_over line → false ≡ is_description line → Answers setup (release_of lane) (λ query. length (release_of lane).records) line text before after
      → IsWritten w f f' t t' text → IsReplied (IsFollowStep setup speakers.Analyst) line w (moment lane before t f) (moment lane after t' f')
  answered w text after f' t' asked other (price, is, cost) written = record {
    reply = record { text = text; price = price };
    step = (refl, here false (record { text = text; price = price }) asked other is);
    written = written;
    cost = cost;
  }

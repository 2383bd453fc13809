-- The replies to a line that `describe` begins.
use Rattle.std.proofs.Common.{◌≡◌, ◌∙◌, ap, subst, ℕ, true, false, List}
use Rattle.std.specs.Prelude.{if◌then◌else◌}
use Rattle.tb_base.specs.Words.{words_of}
use Rattle.tb_describe.specs.Descriptions.{IsDescription, is_description}
use Rattle.tb_describe.proofs.SameReplies.{same_replies}
use Rattle.tb_lines.specs.Lines.{is_passed_over}
use Rattle.tb_lines.specs.Outputs.{ReplyValue}
use Rattle.tb_model.specs.Releases.{ReleaseValue}
use Rattle.tb_model.specs.Setups.{SetupValue}
use Rattle.tb_ahead.specs.Publishing.{StateValue}
use Rattle.tb_session.specs.Asks.{asks_at_or, asks_by, asks_of}
use Rattle.tb_session.specs.Laws.{DescriptionsChangeNothing, DescriptionsGoByTheSchema}
use Rattle.tb_session.specs.PastLines.{past_number}
use Rattle.tb_session.specs.Replies.{IsReply, IsReplyTo}
use Rattle.tb_session.specs.Transcripts.{IsStep, Sees, SeesUnless}
use Rattle.tb_session.specs.declared.asks.Asks.{Asks}
use Rattle.tb_session.specs.declared.asks.Asks.TheVariants as asks
use Rattle.tb_session.specs.declared.party.Role.{Role}
use Rattle.tb_session.specs.declared.party.Role.TheVariants as role

-- what such a line asks for
asks_for_it : (who : Role) (line : List ℕ) → is_passed_over line ≡ false → is_description line ≡ true → asks_of who line ≡ asks.Description
asks_for_it who line over is =
    let other : Asks = asks_at_or (past_number (words_of line)) (asks_by who (words_of line)) in
    ap (λ b. if b then asks.Nothing else if is_description line then asks.Description else other) over
    ∙ ap (λ b. if b then asks.Description else other) is

-- its reply
reply_is : (who : Role) (setup : SetupValue) (base : ReleaseValue) (at after : StateValue) (line : List ℕ) (reply : ReplyValue) → is_passed_over line ≡ false → is_description line ≡ true
    → IsReply who setup base at line reply after → IsDescription setup.schema line reply × (after ≡ at)
reply_is who setup base at after line reply over is step = subst (λ (w : Asks). IsReplyTo w setup base at line reply after) (asks_for_it who line over is) step

pub descriptions_go_by_the_schema : DescriptionsGoByTheSchema
descriptions_go_by_the_schema who who' setup setup' base base' before before' after after' line reply reply' same over is (at, sees, here) (at', sees', there) =
    same_replies setup.schema setup'.schema line reply reply' same (reply_is who setup base at after line reply over is here).0 (reply_is who' setup' base' at' after' line reply' over is there).0

-- where the party stood
saw_nothing : (who : Role) (line : List ℕ) (before at : StateValue) → is_description line ≡ true → Sees who line before at → at ≡ before
saw_nothing role.Analyst line before at is sees = subst (λ b. SeesUnless b before at) is sees
saw_nothing role.Custodian line before at is sees = sees

pub descriptions_change_nothing : DescriptionsChangeNothing
descriptions_change_nothing who setup base before after line reply over is (at, sees, here) =
    (reply_is who setup base at after line reply over is here).1 ∙ saw_nothing who line before at is sees

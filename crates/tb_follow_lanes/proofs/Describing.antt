-- The replies to an analyst's line that `describe` begins.
use Rattle.std.proofs.Common.{◌≡◌, subst, ℕ, Bool, true, false, List}
use Rattle.tb_describe.specs.Descriptions.{IsDescription, is_description}
use Rattle.tb_describe.proofs.SameReplies.{same_replies}
use Rattle.tb_lines.specs.Lines.{is_passed_over}
use Rattle.tb_lines.specs.Outputs.{ReplyValue}
use Rattle.tb_model.specs.Releases.{ReleaseValue}
use Rattle.tb_model.specs.Setups.{SetupValue}
use Rattle.tb_follow_lanes.specs.FollowRuns.{IsAnalystReply, IsDescriptionOr, IsReplyUnless}
use Rattle.tb_follow_lanes.specs.Laws.{DescriptionsGoByTheSchema}

reply_is : (setup : SetupValue) (release : ReleaseValue) (line : List ℕ) (reply : ReplyValue) → is_passed_over line ≡ false → is_description line ≡ true → IsAnalystReply setup release line reply → IsDescription setup.schema line reply
reply_is setup release line reply over is reply_here =
    let told : IsDescriptionOr (is_description line) setup release line reply = subst (λ (b : Bool). IsReplyUnless b (is_description line) setup release line reply) over reply_here in
    subst (λ (b : Bool). IsDescriptionOr b setup release line reply) is told

pub descriptions_go_by_the_schema : DescriptionsGoByTheSchema
descriptions_go_by_the_schema setup setup' release release' line reply reply' same over is here there =
    same_replies setup.schema setup'.schema line reply reply' same (reply_is setup release line reply over is here) (reply_is setup' release' line reply' over is there)

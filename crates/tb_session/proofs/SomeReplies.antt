-- Every line has some reply.
use Rattle.std.proofs.Common.{refl, ℕ, List, [], length, inr, arith}
use Rattle.tb_core.specs.declared.desk.Stats.{Stats}
use Rattle.tb_model.specs.Releases.{ReleaseValue}
use Rattle.tb_model.specs.Setups.{SetupValue}
use Rattle.tb_session.specs.Asks.{asks_of}
use Rattle.tb_session.specs.declared.asks.Asks.{Asks}
use Rattle.tb_session.specs.declared.asks.Asks.TheVariants as asks
use Rattle.tb_session.specs.declared.party.Role.{Role}
use Rattle.tb_lines.specs.Outputs.{ReplyValue}
use Rattle.tb_ahead.specs.Publishing.{StateValue}
use Rattle.tb_session.specs.Replies.{IsReply, IsReplyTo}
use Rattle.tb_session.specs.ReplyLines.{cleared_line, stats_line}
use Rattle.tb_tables.specs.Answers.{free_reply}
use Rattle.tb_tables.specs.ReplyLines.{memory_line}

reply_to_any : (what : Asks) (setup : SetupValue) (base : ReleaseValue) (state : StateValue) (line : List ℕ) → (reply : ReplyValue) × (next : StateValue) × IsReplyTo what setup base state line reply next
reply_to_any asks.Nothing setup base state line = (free_reply [], state, (refl, refl))
reply_to_any asks.Description setup base state line = (free_reply memory_line, state, ((refl, inr refl), refl))
reply_to_any asks.Table setup base state line = (free_reply memory_line, state, (inr (refl, inr refl), refl))
reply_to_any (asks.At n) setup base state line = (free_reply memory_line, state, (inr (refl, inr refl), refl))
reply_to_any asks.Edit setup base state line = (free_reply memory_line, state, (refl, refl, inr (refl, inr (inr refl))))
reply_to_any asks.Publish setup base state line = (free_reply memory_line, state, (refl, inr (inr (refl, refl))))
reply_to_any asks.Stats setup base state line =
    let stats : Stats = record { release = length state.chain; looks = 0; hits = 0; entries = 0; capacity = 1 } in
    (free_reply (stats_line stats), state, (refl, (stats, record { release = refl; hits = omega arith; entries = omega arith; some = omega arith; few = omega arith }, refl), refl))
reply_to_any asks.Clear setup base state line = (free_reply cleared_line, state, (refl, refl))
reply_to_any (asks.Cache capacity) setup base state line = (free_reply memory_line, state, (refl, inr refl, refl))

-- a line of blanks has none, and every other may find no memory, or is of `stats` or `clear`
pub some_reply : (who : Role) (setup : SetupValue) (base : ReleaseValue) (state : StateValue) (line : List ℕ) → (reply : ReplyValue) × (next : StateValue) × IsReply who setup base state line reply next
some_reply who setup base state line = reply_to_any (asks_of who line) setup base state line

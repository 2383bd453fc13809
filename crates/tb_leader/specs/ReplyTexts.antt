-- The text of a reply as the program keeps it.
use Rattle.std.specs.Prelude.{ℕ, List, []}
use Rattle.tb_ahead.specs.Publishing.{batch_refusal_line}
use Rattle.tb_leader.specs.ReplyLines.{at_line, begun_line, edit_refusal_line, far_line, held_line}
use Rattle.tb_leader.specs.ReplyLines.{kept_line, old_line, refused_line, restarted_line}
use Rattle.tb_leader.specs.declared.reply.LeaderReply.{LeaderReply}
use Rattle.tb_leader.specs.declared.reply.LeaderReply.TheVariants as replies
use Rattle.tb_tables.specs.ReplyLines.{memory_line}

abbrev pub reply_text : LeaderReply → List ℕ
reply_text replies.Nothing = []
reply_text (replies.Begun number) = begun_line number
reply_text (replies.Held count) = held_line count
reply_text (replies.EditRefused fault) = edit_refusal_line fault
reply_text (replies.At number) = at_line number
reply_text (replies.Kept number) = kept_line number
reply_text (replies.Old number) = old_line number
reply_text (replies.Far number) = far_line number
reply_text (replies.BatchRefused edit fault) = batch_refusal_line edit fault
reply_text replies.Restarted = restarted_line
reply_text replies.Refused = refused_line
reply_text replies.Memory = memory_line

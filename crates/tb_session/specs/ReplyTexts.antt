-- The text of a reply as the program keeps it.
use Rattle.std.specs.Prelude.{ℕ, List, [], Result, Ok, Err}
use Rattle.tb_base.specs.declared.memory.Memory.{Memory}
use Rattle.tb_describe.specs.Told.{description_text}
use Rattle.tb_ahead.specs.Publishing.{published_line, batch_refusal_line}
use Rattle.tb_session.specs.ReplyLines.{held_line, edit_refusal_line, no_such_release_line}
use Rattle.tb_session.specs.ReplyLines.{stats_line, cleared_line, capacity_line, withdrawn_line}
use Rattle.tb_session.specs.declared.reply.Reply.{Reply}
use Rattle.tb_session.specs.declared.reply.Reply.TheVariants as replies
use Rattle.tb_tables.specs.ReplyLines.{memory_line}
use Rattle.tb_tables.specs.ReplyTexts.{table_reply_text}

abbrev pub reply_text : Reply → List ℕ
reply_text replies.Nothing = []
reply_text (replies.Description reply) = description_text reply
reply_text (replies.Query reply) = table_reply_text reply
reply_text (replies.NoSuchRelease last) = no_such_release_line last
reply_text (replies.Withdrawn oldest) = withdrawn_line oldest
reply_text (replies.Held count) = held_line count
reply_text (replies.EditRefused fault) = edit_refusal_line fault
reply_text (replies.Published number) = published_line number
reply_text (replies.BatchRefused edit fault) = batch_refusal_line edit fault
reply_text (replies.Stats stats) = stats_line stats
reply_text replies.Cleared = cleared_line
reply_text (replies.Capacity capacity) = capacity_line capacity
reply_text replies.Memory = memory_line

-- or that memory was refused, where it couldn't be made
abbrev pub text_or_memory : Result Reply Memory → List ℕ
text_or_memory (Ok reply) = reply_text reply
text_or_memory (Err error) = memory_line

-- The text of a reply to a query's line, as the program keeps it.
use Rattle.std.specs.Prelude.{ℕ, List}
use Rattle.std.specs.Option.{option_map_or}
use Rattle.tb_query.specs.FaultNames.{fault_name, fault_position}
use Rattle.tb_query.specs.declared.fault.QueryFault.{QueryFault}
use Rattle.tb_tables.specs.ReplyLines.{memory_line, refusal_line}
use Rattle.tb_tables.specs.declared.reply.TableReply.{TableReply}
use Rattle.tb_tables.specs.declared.reply.TableReply.TheVariants as replies

abbrev pub table_reply_text : TableReply → List ℕ
table_reply_text (replies.Table text) = text
table_reply_text (replies.Refused fault position) = refusal_line fault position
table_reply_text replies.Memory = memory_line

-- the text where a query's line has this fault, which may be that memory was refused
abbrev pub fault_text : QueryFault → List ℕ
fault_text fault =
    option_map_or (λ name. refusal_line name (fault_position fault)) (fault_name fault) memory_line

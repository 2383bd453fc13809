-- The replies to a query's line over a release. Nothing here speaks of the program.
use Rattle.std.specs.Prelude.{◌≡◌, ◌⊎◌, ◌≤◌, ◌+◌, ℕ, List, Some}
use Rattle.tb_lines.specs.Outputs.{ReplyValue}
use Rattle.tb_model.specs.Queries.{QueryValue}
use Rattle.tb_model.specs.Releases.{ReleaseValue}
use Rattle.tb_model.specs.Setups.{SetupValue}
use Rattle.tb_model.specs.Texts.{table_text}
use Rattle.tb_query.specs.Faults as queries
use Rattle.tb_query.specs.FaultNames as query_names
use Rattle.tb_query.specs.declared.fault.QueryFault.{QueryFault}
use Rattle.tb_rows.specs.FaultNames.{FaultNameValue}
use Rattle.tb_tables.specs.ReplyLines.{memory_line, refusal_line}

-- a query's table over a release, at a price that goes by the query
abbrev pub table_reply : SetupValue → ReleaseValue → (QueryValue → ℕ) → QueryValue → ReplyValue
table_reply setup release price query =
    record { text = table_text setup release query; price = price query }

-- a reply that costs nothing
abbrev pub free_reply : List ℕ → ReplyValue
free_reply text = record { text = text; price = 0 }

-- the reply to a line that reads as a query, of which each has a whole reply: that one, or that
-- memory was refused, and then as many records may have been lent
abbrev pub IsReplyOf : SetupValue → (QueryValue → ReplyValue) → List ℕ → ReplyValue → Type 0
IsReplyOf setup whole line reply =
    (query : QueryValue)
    × queries.Reads setup.schema line query
    × ((reply ≡ whole query) ⊎ (reply ≡ record (whole query) { text = memory_line }))

-- the reply to a line with a fault
abbrev pub IsRefusal : SetupValue → List ℕ → List ℕ → Type 0
IsRefusal setup line text =
    (fault : QueryFault) × (name : FaultNameValue)
    × queries.IsRefused setup.schema line fault × (query_names.fault_name fault ≡ Some name)
    × (text ≡ refusal_line name (query_names.fault_position fault))

-- a reply to a query's line, where each query has a whole reply: that one, the line of its first
-- fault, or that memory was refused
abbrev pub IsAnswerBy : SetupValue → (QueryValue → ReplyValue) → List ℕ → ReplyValue → Type 0
IsAnswerBy setup whole line reply =
    IsReplyOf setup whole line reply
    ⊎ (reply.price ≡ 0) × (IsRefusal setup line reply.text ⊎ (reply.text ≡ memory_line))

-- a reply to a query's line over a release: its table, the line of its first fault, or that memory
-- was refused
abbrev pub IsAnswer : SetupValue → ReleaseValue → (QueryValue → ℕ) → List ℕ → ReplyValue → Type 0
IsAnswer setup release price line reply =
    IsAnswerBy setup (table_reply setup release price) line reply

-- a query's line gets this text, where each query has a whole reply, at no more than its price: the
-- counter of steps goes from one number to another
abbrev pub AnswersBy : SetupValue → (QueryValue → ReplyValue) → List ℕ → List ℕ → ℕ → ℕ → Type 0
AnswersBy setup whole line text before after =
    (cost : ℕ) × IsAnswerBy setup whole line (record { text = text; price = cost })
    × (after ≤ before + cost)

-- the same over a release
abbrev pub Answers : SetupValue → ReleaseValue → (QueryValue → ℕ) → List ℕ → List ℕ → ℕ → ℕ
    → Type 0
Answers setup release price line text before after =
    AnswersBy setup (table_reply setup release price) line text before after

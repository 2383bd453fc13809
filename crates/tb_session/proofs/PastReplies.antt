-- The reply over release n of a chain, by whether it is shown.
use Rattle.std.proofs.Common.{◌≡◌, ◌∙◌, refl, sym, subst, ap, ℕ, ◌<◌, ◌≤◌, List, length}
use Rattle.std.proofs.lemmas.Bool.{le-ltb, lt-ltb}
use Rattle.tb_model.specs.Queries.{QueryValue}
use Rattle.tb_model.specs.Releases.{ReleaseValue}
use Rattle.tb_model.specs.Setups.{SetupValue}
use Rattle.tb_release.specs.Batches.{BatchValue}
use Rattle.tb_session.specs.PastTables.{oldest_of, past_reply, past_table}
use Rattle.std.specs.Prelude.{Result, Ok, Err, IfOk, ◌+◌}
use Rattle.tb_base.specs.declared.memory.Memory.{Memory}
use Rattle.tb_lines.specs.Outputs.{ReplyValue}
use Rattle.tb_query.specs.Faults.{Reads}
use Rattle.tb_session.specs.ReplyLines.{no_such_release_line, withdrawn_line}
use Rattle.tb_session.specs.ReplyTexts.{reply_text, text_or_memory}
use Rattle.tb_session.specs.declared.reply.Reply.{Reply}
use Rattle.tb_tables.specs.Answers.{AnswersBy, free_reply}
use Rattle.tb_tables.proofs.QueryAnswers.{by-text}

module _ (setup : SetupValue) (base : ReleaseValue) (chain : List BatchValue) (n : ℕ) (query : QueryValue) where
  -- where the chain shows that release
  pub shown_reply : n ≤ length chain → oldest_of base chain ≤ n → past_reply setup base chain n query ≡ past_table setup base chain n query
  shown_reply low young = rw (le-ltb (length chain) n low) (rw (le-ltb n (oldest_of base chain) young) refl)

  -- where it was taken back
  pub withdrawn_reply : (oldest : ℕ) → oldest ≡ oldest_of base chain → n ≤ length chain → n < oldest → past_reply setup base chain n query ≡ free_reply (withdrawn_line oldest)
  withdrawn_reply oldest is low old = rw (is) (rw (le-ltb (length chain) n low) (rw (lt-ltb n (oldest_of base chain) (subst (λ m. n < m) is old)) refl))

  -- and where there is none
  pub none_reply : (last : ℕ) → last ≡ length chain → last < n → past_reply setup base chain n query ≡ free_reply (no_such_release_line last)
  none_reply last is high = rw (is) (rw (lt-ltb (length chain) n (subst (λ m. m < n) is high)) refl)

-- a line that reads as a query, whose reply was made or wasn't
pub by-reply : (setup : SetupValue) (whole : QueryValue → ReplyValue) (line : List ℕ) (p q : ℕ) (query : QueryValue) (made : Result Reply Memory) → Reads setup.schema line query → IfOk made (λ reply. reply_text reply ≡ (whole query).text)
    → q ≤ p + (whole query).price → AnswersBy setup whole line (text_or_memory made) p q
by-reply setup whole line p q query (Ok reply) reads same cost = by-text setup whole line p q query (Ok (reply_text reply)) reads same cost
by-reply setup whole line p q query (Err error) reads same cost = by-text setup whole line p q query (Err error) reads tt cost

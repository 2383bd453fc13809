-- The reply over release n of the chain that was seen, by what was handed out.
use Rattle.std.proofs.Common.{◌≡◌, ◌∙◌, sym, subst, ap, ℕ, ◌+◌, ◌<◌, ◌≤◌, List, length}
use Rattle.tb_board.specs.Holders.{HolderValue}
use Rattle.tb_lines.specs.Outputs.{ReplyValue}
use Rattle.tb_model.specs.Queries.{QueryValue}
use Rattle.tb_model.specs.Releases.{ReleaseValue}
use Rattle.tb_model.specs.Setups.{SetupValue}
use Rattle.tb_model.specs.Texts.{table_text}
use Rattle.tb_plan.specs.Plans.{PlanValue}
use Rattle.tb_release.specs.Batches.{BatchValue}
use Rattle.tb_release.specs.Revised.{release_at}
use Rattle.tb_session.proofs.PastReplies.{none_reply, shown_reply, withdrawn_reply}
use Rattle.tb_session.specs.PastTables.{oldest_of, past_price, past_reply, past_table}
use Rattle.tb_session.specs.PastTaken.{IsPastOf, base_in, chain_in}
use Rattle.tb_session.specs.ReplyLines.{no_such_release_line, withdrawn_line}
use Rattle.tb_session.specs.declared.count_past.Past.{Past}

module _ (plan : PlanValue) (seen : HolderValue) (past : Past) (h : IsPastOf plan seen past) (setup : SetupValue) (n : ℕ) (query : QueryValue) where
  -- what was handed out is what was seen
  same_reply : past_reply setup (base_in past) (chain_in past) n query ≡ past_reply setup seen.start.base seen.list n query
  same_reply =
      ap (λ (b : ReleaseValue). past_reply setup b (chain_in past) n query) h.base ∙ ap (λ (c : List BatchValue). past_reply setup seen.start.base c n query) h.batches

  abbrev reply_here : ReplyValue
  reply_here = past_reply setup seen.start.base seen.list n query

  -- no such release
  pub none_here : (last : ℕ) → last ≡ length (chain_in past) → last < n → no_such_release_line last ≡ reply_here.text
  none_here last is high = ap (λ (r : ReplyValue). r.text) (sym (none_reply setup (base_in past) (chain_in past) n query last is high) ∙ same_reply)

  -- one that was taken back
  pub withdrawn_here : (oldest : ℕ) → oldest ≡ oldest_of (base_in past) (chain_in past) → n ≤ length (chain_in past) → n < oldest → withdrawn_line oldest ≡ reply_here.text
  withdrawn_here oldest is low old = ap (λ (r : ReplyValue). r.text) (sym (withdrawn_reply setup (base_in past) (chain_in past) n query oldest is low old) ∙ same_reply)

  -- one that is shown
  table_here : n ≤ length (chain_in past) → oldest_of (base_in past) (chain_in past) ≤ n → past_table setup (base_in past) (chain_in past) n query ≡ reply_here
  table_here low young = sym (shown_reply setup (base_in past) (chain_in past) n query low young) ∙ same_reply

  pub text_here : n ≤ length (chain_in past) → oldest_of (base_in past) (chain_in past) ≤ n → table_text setup (release_at (base_in past) (chain_in past) n) query ≡ reply_here.text
  text_here low young = ap (λ (r : ReplyValue). r.text) (table_here low young)

  pub cost_here : n ≤ length (chain_in past) → oldest_of (base_in past) (chain_in past) ≤ n → (p q : ℕ) → q ≤ p + past_price (base_in past) (chain_in past) → q ≤ p + reply_here.price
  cost_here low young p q cost = subst (λ (r : ReplyValue). q ≤ p + r.price) (table_here low young) cost

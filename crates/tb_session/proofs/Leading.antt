-- Where a line leads, by what it asks for.
use Rattle.std.proofs.Common.{◌≡◌, ◌∙◌, length, refl, sym, ap, subst, ℕ, ◌+◌, ◌≤◌, Bool, true, false, List, [], arith}
use Rattle.std.specs.Prelude.{if◌then◌else◌, Option, Some, None}
use Rattle.tb_base.specs.Words.{words_of}
use Rattle.tb_board.specs.Custodians.{CustodianValue, IsWhole}
use Rattle.tb_board.specs.Holders.{HolderValue, release_seen}
use Rattle.tb_board.specs.Starts.{StartValue}
use Rattle.tb_core.specs.Turns.{AreStats}
use Rattle.tb_core.specs.declared.desk.Stats.{Stats}
use Rattle.tb_describe.specs.Descriptions.{Describes, is_description}
use Rattle.tb_front.specs.Holders.{IsLater}
use Rattle.tb_model.specs.Releases.{ReleaseValue}
use Rattle.tb_model.specs.Setups.{SetupValue}
use Rattle.tb_release.specs.Chains.{release_after}
use Rattle.tb_release.specs.declared.edits.Edit.{Edit}
use Rattle.tb_session.specs.Asks.{asks_at_or, asks_of}
use Rattle.tb_session.specs.declared.asks.Asks.{Asks}
use Rattle.tb_session.specs.declared.asks.Asks.TheVariants as asks
use Rattle.tb_session.specs.declared.party.Role.{Role}
use Rattle.tb_session.specs.declared.party.Role.TheVariants as role
use Rattle.tb_lines.specs.Lines.{is_passed_over}
use Rattle.tb_session.specs.Parties.{Leads, PublishLeads, state_at}
use Rattle.tb_ahead.specs.Publishing.{StateValue}
use Rattle.tb_session.specs.PastLines.{past_number, past_query}
use Rattle.tb_session.specs.PastTables.{IsPastAnswer, past_reply}
use Rattle.tb_session.specs.Replies.{AnswersLine, IsCapacityReply, IsEditReply, IsReplyTo, IsStatsReply, IsTableReply}
use Rattle.tb_session.specs.ReplyLines.{cleared_line}
use Rattle.tb_session.specs.Transcripts.{Sees, SeesUnless}
use Rattle.tb_session.proofs.Analysts.{sees_itself}
use Rattle.tb_tables.specs.Answers.{AnswersBy, free_reply}

by_asks : (who : Role) (setup : SetupValue) (base : ReleaseValue) (old at new : StateValue) (line text : List ℕ) (p q : ℕ) → Sees who line old at → (what : Asks) (price : ℕ) → asks_of who line ≡ what
    → IsReplyTo what setup base at line (record { text = text; price = price }) new → q ≤ p + price → Leads who setup base old line text p q new
by_asks who setup base old at new line text p q sees what price is reply cost = record {
  price = price;
  step = (at, sees, subst (λ (w : Asks). IsReplyTo w setup base at line (record { text = text; price = price }) new) (sym is) reply);
  cost = cost;
}

-- ---- the custodian's lines
-- the desk's numbers tell how many batches the custodian wrote
pub own_stats : (old new : CustodianValue) (stats : Stats) → IsWhole old → new ≡ old → AreStats (length new.pass.list) stats → AreStats (length old.writer.list) stats
own_stats old new stats whole is are =
    subst (λ (n : ℕ). AreStats n stats) (ap (λ (c : CustodianValue). length c.pass.list) is ∙ ap (λ (h : HolderValue). length h.list) whole.same) are

module _ (setup : SetupValue) (old new : CustodianValue) (held after : List Edit) (line text : List ℕ) (p q : ℕ) where
  abbrev Own : Type 0
  Own = Leads role.Custodian setup old.writer.start.base (state_at old.writer held) line text p q (state_at new.writer after)

  by_own : (what : Asks) (price : ℕ) → asks_of role.Custodian line ≡ what
      → IsReplyTo what setup old.writer.start.base (state_at old.writer held) line (record { text = text; price = price }) (state_at new.writer after) → q ≤ p + price → Own
  by_own what price is reply cost = by_asks role.Custodian setup old.writer.start.base (state_at old.writer held) (state_at old.writer held) (state_at new.writer after) line text p q refl what price is reply cost

  same_state : new ≡ old → after ≡ held → state_at new.writer after ≡ state_at old.writer held
  same_state is same =
      let chain : new.writer.list ≡ old.writer.list = ap (λ (c : CustodianValue). c.writer.list) is in λ i. record { chain = chain i; held = same i }

  pub leads_to_description : asks_of role.Custodian line ≡ asks.Description → new ≡ old → after ≡ held → Describes setup.schema line text → q ≡ p → Own
  leads_to_description is same also reply free = by_own asks.Description 0 is ((refl, reply), same_state same also) (omega (arith, free))

  pub leads_to_table : asks_of role.Custodian line ≡ asks.Table → new ≡ old → after ≡ held → AnswersLine setup (release_seen old.writer) line text p q → Own
  leads_to_table is same also (price, answer, cost) = by_own asks.Table price is (answer, same_state same also) cost

  pub leads_to_past : (n : ℕ) → asks_of role.Custodian line ≡ asks.At n → new ≡ old → after ≡ held → AnswersBy setup (past_reply setup old.writer.start.base old.writer.list n) (past_query line) text p q → Own
  leads_to_past n is same also (price, answer, cost) = by_own (asks.At n) price is (answer, same_state same also) cost

  pub leads_to_edit : asks_of role.Custodian line ≡ asks.Edit → new ≡ old → IsEditReply setup line held text after → q ≡ p → Own
  leads_to_edit is same reply free = by_own asks.Edit 0 is (refl, ap (λ (c : CustodianValue). c.writer.list) same, reply) (omega (arith, free))

  pub leads_to_publish : asks_of role.Custodian line ≡ asks.Publish → PublishLeads old held text new after → q ≡ p → Own
  leads_to_publish is leads free = by_own asks.Publish 0 is (refl, leads.is_reply) (omega (arith, free))

  pub leads_to_stats : asks_of role.Custodian line ≡ asks.Stats → new ≡ old → after ≡ held → IsStatsReply old.writer.list text → q ≡ p → Own
  leads_to_stats is same also reply free = by_own asks.Stats 0 is (refl, reply, same_state same also) (omega (arith, free))

  pub leads_to_capacity : (capacity : ℕ) → asks_of role.Custodian line ≡ asks.Cache capacity → new ≡ old → after ≡ held → IsCapacityReply capacity text → q ≡ p → Own
  leads_to_capacity capacity is same also reply free = by_own (asks.Cache capacity) 0 is (refl, reply, same_state same also) (omega (arith, free))

  -- the cubes are forgotten
  pub leads_to_clear : asks_of role.Custodian line ≡ asks.Clear → new ≡ old → after ≡ held → text ≡ cleared_line → q ≡ p → Own
  leads_to_clear is same also is_text free = by_own asks.Clear 0 is (ap (λ (t : List ℕ). free_reply t) is_text, same_state same also) (omega (arith, free))

  -- a line without a reply
  pub leads_to_nothing : asks_of role.Custodian line ≡ asks.Nothing → new ≡ old → after ≡ held → text ≡ [] → q ≡ p → Own
  leads_to_nothing is same also is_text free = by_own asks.Nothing 0 is (ap (λ (t : List ℕ). free_reply t) is_text, same_state same also) (omega (arith, free))

-- ---- an analyst's lines
module _ (setup : SetupValue) (old new : HolderValue) (line text : List ℕ) (p q : ℕ) where
  abbrev Other : Type 0
  Other = Leads role.Analyst setup old.start.base (state_at old []) line text p q (state_at new [])

  by_role : (over describes : Bool) (number : Option ℕ) → is_passed_over line ≡ over → is_description line ≡ describes → past_number (words_of line) ≡ number
      → asks_of role.Analyst line ≡ (if over then asks.Nothing else if describes then asks.Description else asks_at_or number asks.Table)
  by_role over describes number is begins names =
      ap (λ b. if b then asks.Nothing else if is_description line then asks.Description else asks_at_or (past_number (words_of line)) asks.Table) is
      ∙ ap (λ b. if over then asks.Nothing else if b then asks.Description else asks_at_or (past_number (words_of line)) asks.Table) begins
      ∙ ap (λ o. if over then asks.Nothing else if describes then asks.Description else asks_at_or o asks.Table) names

  -- more may be seen at another line than one that describes
  sees_more : is_description line ≡ false → IsLater old new → Sees role.Analyst line (state_at old []) (state_at new [])
  sees_more other later = subst (λ b. SeesUnless b (state_at old []) (state_at new [])) (sym other) (later.begins, refl)

  -- a line without a reply
  pub analyst_nothing : is_passed_over line ≡ true → new ≡ old → text ≡ [] → q ≡ p → Other
  analyst_nothing over same is_text free =
      let is : asks_of role.Analyst line ≡ asks.Nothing = by_role true (is_description line) (past_number (words_of line)) over refl refl in
      let stays : state_at new [] ≡ state_at old [] = ap (λ (h : HolderValue). state_at h []) same in
      by_asks role.Analyst setup old.start.base (state_at old []) (state_at old []) (state_at new []) line text p q (sees_itself role.Analyst line (state_at old [])) asks.Nothing 0 is (ap (λ (t : List ℕ). free_reply t) is_text, stays) (omega (arith, free))

  -- a line that describes
  pub analyst_description : is_passed_over line ≡ false → is_description line ≡ true → new ≡ old → Describes setup.schema line text → q ≡ p → Other
  analyst_description over begins same reply free =
      let is : asks_of role.Analyst line ≡ asks.Description = by_role false true (past_number (words_of line)) over begins refl in
      let stays : state_at new [] ≡ state_at old [] = ap (λ (h : HolderValue). state_at h []) same in
      by_asks role.Analyst setup old.start.base (state_at old []) (state_at old []) (state_at new []) line text p q (sees_itself role.Analyst line (state_at old [])) asks.Description 0 is ((refl, reply), stays) (omega (arith, free))

  -- a query
  pub analyst_query : is_passed_over line ≡ false → is_description line ≡ false → past_number (words_of line) ≡ None → IsLater old new → AnswersLine setup (release_seen new) line text p q → Other
  analyst_query over other names later (price, answer, cost) =
      let is : asks_of role.Analyst line ≡ asks.Table = by_role false false None over other names in
      let own : IsTableReply setup (release_after old.start.base new.list) line (record { text = text; price = price }) =
      subst (λ (s : StartValue). IsTableReply setup (release_after s.base new.list) line (record { text = text; price = price })) later.base answer in
      by_asks role.Analyst setup old.start.base (state_at old []) (state_at new []) (state_at new []) line text p q (sees_more other later) asks.Table price is (own, refl) cost

  -- a query at a release that it names
  pub analyst_past : (n : ℕ) → is_passed_over line ≡ false → is_description line ≡ false → past_number (words_of line) ≡ Some n → IsLater old new → AnswersBy setup (past_reply setup new.start.base new.list n) (past_query line) text p q → Other
  analyst_past n over other names later (price, answer, cost) =
      let is : asks_of role.Analyst line ≡ asks.At n = by_role false false (Some n) over other names in
      let own : IsPastAnswer setup old.start.base new.list n (past_query line) (record { text = text; price = price }) =
      subst (λ (s : StartValue). IsPastAnswer setup s.base new.list n (past_query line) (record { text = text; price = price })) later.base answer in
      by_asks role.Analyst setup old.start.base (state_at old []) (state_at new []) (state_at new []) line text p q (sees_more other later) (asks.At n) price is (own, refl) cost

-- The lines of a script, one after another.
use Rattle.std.proofs.Common.{◌≡◌, ◌∙◌, sym, ap, subst, ℕ, ◌+◌, ◌≤◌, List, [], ◌∷◌, ◌++◌, Option, arith, length, length-append}
use Rattle.std.specs.List.{All}
use Rattle.std.proofs.lemmas.List.Elements.{All-push}
use mathlib.Core.List.{IsPrefix}
use Rattle.tb_board.specs.Holders.{HolderValue}
use Rattle.tb_board.specs.Starts.{StartValue}
use Rattle.tb_front.specs.Holders.{IsLater, Name}
use Rattle.tb_front.proofs.Holding.{later_both, later_trans}
use Rattle.tb_io.specs.Taken.{Took, TookPart}
use Rattle.tb_lines.specs.Lists.{AreAnswered, AreCutShort, StepBy}
use Rattle.tb_lines.specs.Outputs.{AreReplies, AtPrice, Charged, Lead, ReplyValue, charged, price_of, text_of}
use Rattle.tb_lines.proofs.Completing.{completed}
use Rattle.tb_lines.proofs.Paying.{paid}
use Rattle.tb_model.specs.Releases.{ReleaseValue}
use Rattle.tb_model.specs.Setups.{SetupValue}
use Rattle.tb_release.specs.Batches.{BatchValue}
use Rattle.tb_release.specs.declared.edits.Edit.{Edit}
use Rattle.tb_script.specs.Runs.{AreAnalysts, Asks, IsLaneReply, IsOwnedReply, IsOwnedRun, IsOwnedStep, IsRun, standing}
use Rattle.tb_script.specs.Scripts.{ScriptLine, ScriptValue, role_of_lane}
use Rattle.tb_script.specs.declared.asker.Asker.{Asker}
use Rattle.tb_script.specs.declared.run.RunEnd.{RunEnd}
use Rattle.tb_script.specs.declared.run.RunEnd.TheVariants as run_end
use Rattle.tb_session.specs.Owners.{HasWritten}
use Rattle.tb_session.specs.Parties.{GoesOn, IsAnalystOf, IsPartyOf, Learns, held_by, role_of, seen_by, state_at, state_of}
use Rattle.tb_session.specs.PartySessions.{IsPartyStep, with_none_held}
use Rattle.tb_ahead.specs.Publishing.{StateValue}
use Rattle.tb_session.specs.Replies.{IsReply}
use Rattle.tb_session.specs.Transcripts.{IsStep}
use Rattle.tb_session.specs.declared.party.Party.{Party}
use Rattle.tb_session.specs.declared.party.Party.TheVariants as party
use Rattle.tb_session.specs.declared.party.Role.{Role}
use Rattle.tb_session.specs.declared.party.Role.TheVariants as role
use Rattle.tb_session.proofs.Analysts.{analyst_anywhere, analyst_stays, seen_begins}
use Rattle.tb_session.proofs.SomeReplies.{some_reply}

-- ---- one line of an analyst
-- who has learnt something is an analyst still, and after its line
pub stays_analyst : (name : Name) (shape : List ℕ) (seen : HolderValue) (first old new : Party) → Learns seen first old → GoesOn old new → IsPartyOf name shape new → IsAnalystOf name shape new
stays_analyst name shape seen (party.Analyst z) (party.Analyst a) (party.Analyst b) learns on is = is
stays_analyst name shape seen (party.Analyst z) (party.Analyst a) (party.Custodian c h) learns on is = let who : role.Custodian ≡ role.Analyst = on.who in absurd (cc)
stays_analyst name shape seen (party.Analyst z) (party.Custodian c h) new learns on is = absurd learns
stays_analyst name shape seen (party.Custodian c h) old new learns on is = absurd learns

-- an analyst who had learnt what a writer wrote, and whose pass was confirmed after its line, got a reply over that
pub beside : (setup : SetupValue) (name : Name) (shape : List ℕ) (base : ReleaseValue) (chain : List BatchValue) (writer : HolderValue) (first old new : Party) (line : List ℕ) (reply : ReplyValue)
    → HasWritten name shape base chain writer → Learns writer first old → GoesOn old new
    → IsStep (role_of old) setup (seen_by old).start.base (state_of old) line reply (state_of new) → IsLater (seen_by new) writer
    → (held : List Edit) → IsReply role.Analyst setup base (standing chain held) line reply (standing chain held)
beside setup name shape base chain writer (party.Analyst z) (party.Analyst a) (party.Analyst b) line reply written (own, knows) on (at, sees, is) behind held =
    let begins : IsPrefix a.list at.chain = seen_begins line (state_at a []) at sees in
    let state : StateValue = standing chain held in
    let stays : state_at b [] ≡ at = analyst_stays setup a.start.base at (state_at b []) line reply is in
    let reached : b.list ≡ at.chain = ap (λ (s : StateValue). s.chain) stays in
    let further : IsLater a b = record { front = on.front; base = on.start; begins = subst (λ (l : List BatchValue). IsPrefix a.list l) (sym reached) begins } in
    let caught : IsLater writer b = later_trans writer a b knows further in
    let same : b ≡ writer = later_both b writer behind caught in
    let there : at.chain ≡ state.chain = sym reached ∙ ap (λ (h : HolderValue). h.list) same ∙ written.all in
    let start : a.start.base ≡ base = ap (λ (s : StartValue). s.base) (sym on.start ∙ ap (λ (h : HolderValue). h.start) same) ∙ written.first in
    subst (λ (r : ReleaseValue). IsReply role.Analyst setup r state line reply state) start (analyst_anywhere setup a.start.base at (state_at b []) state line reply there is)
beside setup name shape base chain writer (party.Analyst z) (party.Analyst a) (party.Custodian c h) line reply written learns on step behind held = let who : role.Custodian ≡ role.Analyst = on.who in absurd (cc)
beside setup name shape base chain writer (party.Analyst z) (party.Custodian c h) new line reply written learns on step behind held = absurd learns
beside setup name shape base chain writer (party.Custodian c h) old new line reply written learns on step behind held = absurd learns

-- ---- the analysts of a script
-- one more, who has seen what the writer wrote
pub one_more : (name : Name) (shape : List ℕ) (base : ReleaseValue) (chain : List BatchValue) (writer : HolderValue) (lanes : ℕ) (analysts more : List Party) (one : Party)
    → HasWritten name shape base chain writer → one ≡ party.Analyst writer → more ≡ analysts ++ one ∷ [] → AreAnalysts name shape lanes analysts → AreAnalysts name shape (lanes + 1) more
one_more name shape base chain writer lanes analysts more one written is added are =
    let own : All (IsAnalystOf name shape) (analysts ++ one ∷ []) =
    All-push (IsAnalystOf name shape) analysts one are.own (subst (λ (p : Party). IsAnalystOf name shape p) (sym is) written.own) in
    record {
      own = subst (λ (l : List Party). All (IsAnalystOf name shape) l) (sym added) own;
      many = omega (arith, ap (λ (l : List Party). length l) added, length-append analysts (one ∷ []), are.many);
    }

-- ---- all lines, as who asks them, and by their lanes
module _ {S : Type 0} (setup : SetupValue) (script : ScriptValue) (base : S → ReleaseValue) (chain : S → List BatchValue) (Own : S → List ℕ → ReplyValue → S → Type 0) where
  abbrev Asked : S → ScriptLine → ReplyValue → S → Type 0
  Asked = StepBy (Asks script) (λ (line : ScriptLine). line.line) (λ (who : Asker). IsOwnedStep setup base chain Own who.role)

  asked_legal : (p : Charged S) (lines : List ScriptLine) (replies : List ReplyValue) (q : Charged S) → Lead (AtPrice Asked) p lines replies q
      → Lead (AtPrice (IsOwnedReply setup base chain Own)) p lines replies q
  asked_legal p [] [] q e = e
  asked_legal p [] (reply ∷ replies) q e = absurd e
  asked_legal p (line ∷ lines) [] q e = absurd e
  asked_legal p (line ∷ lines) (reply ∷ replies) q (next, ((who, asks, is), cost), others) = (
    next,
    (subst (λ (w : Role). IsOwnedStep setup base chain Own w p.at line.line reply next.at) asks.role is, cost),
    asked_legal next lines replies q others,
  )

  module _ (first last : Charged S) (lines : List ScriptLine) (a b : Option (List ℕ)) where
    -- every reply was taken
    pub asked-done : AreAnswered (Lead (AtPrice Asked)) lines first last a b → AreAnswered (Lead (AtPrice (IsOwnedReply setup base chain Own))) lines first last a b
    asked-done h = record { replies = h.replies; legal = asked_legal _ _ _ _ h.legal; took = h.took }

    -- a write failed in the reply to one line
    pub asked-cut : AreCutShort (Lead (AtPrice Asked)) lines first last a b → AreCutShort (Lead (AtPrice (IsOwnedReply setup base chain Own))) lines first last a b
    asked-cut h = record { count = h.count; among = h.among; replies = h.replies; cut = h.cut; legal = asked_legal _ _ _ _ h.legal; part = h.part; took = h.took }

  module _ (fresh : S → S) (own begun : S) (p : ℕ) (last : Charged S) (lines : List ScriptLine) (end : RunEnd) (a b : Option (List ℕ)) (same : begun ≡ own) where
    abbrev Owned : S → RunEnd → Type 0
    Owned from how = IsOwnedRun (IsOwnedReply setup base chain Own) fresh lines how (charged from p) last a b

    moved : (how : RunEnd) → end ≡ how → Owned begun how → Owned own end
    moved how is h = subst (λ (e : RunEnd). Owned own e) (sym is) (subst (λ (s : S). Owned s how) same h)

    -- a run from where the owner stood, by how it ended
    pub owned-done : end ≡ run_end.Done → AreAnswered (Lead (AtPrice Asked)) lines (charged (fresh begun) p) last a b → Owned own end
    owned-done is h = moved run_end.Done is (asked-done _ _ _ _ _ h)

    pub owned-cut : end ≡ run_end.WriteFault → AreCutShort (Lead (AtPrice Asked)) lines (charged (fresh begun) p) last a b → Owned own end
    owned-cut is h = moved run_end.WriteFault is (asked-cut _ _ _ _ _ h)

-- ---- where the custodian's party is the owner
-- where a party stands, and the counter
abbrev state_now : Charged Party → Charged StateValue
state_now p = charged (state_of p.at) p.steps

abbrev base_of : Party → ReleaseValue
base_of p = (seen_by p).start.base

abbrev chain_of : Party → List BatchValue
chain_of p = (seen_by p).list

module _ (setup : SetupValue) where
  -- a party after a line: it is the custodian still, over one release 0, and the reply is legal
  abbrev Goes : Role → Party → List ℕ → ReplyValue → Party → Type 0
  Goes who old line reply new = (role_of new ≡ role.Custodian) × (base_of new ≡ base_of old) × IsReply who setup (base_of old) (state_of old) line reply (state_of new)

  one_line : (who : Role) (old new : Party) (line : List ℕ) (reply : ReplyValue) → role_of old ≡ role.Custodian
      → IsOwnedStep setup base_of chain_of (IsPartyStep setup) who old line reply new → Goes who old line reply new
  one_line role.Custodian old new line reply own (on, step) =
      let (at, here, is) = subst (λ (w : Role). IsStep w setup (base_of old) (state_of old) line reply (state_of new)) own step in (
        on.who ∙ own,
        ap (λ (s : StartValue). s.base) on.start,
        subst (λ (s : StateValue). IsReply role.Custodian setup (base_of old) s line reply (state_of new)) here is,
      )
  one_line role.Analyst old new line reply own (same, is) = (
    ap role_of same ∙ own,
    ap base_of same,
    subst (λ (p : Party). IsReply role.Analyst setup (base_of old) (state_of old) line reply (state_of p)) (sym same) (is (held_by old)),
  )

  lanes_legal : (p : Charged Party) (lines : List ScriptLine) (replies : List ReplyValue) (q : Charged Party) → role_of p.at ≡ role.Custodian
      → Lead (AtPrice (IsOwnedReply setup base_of chain_of (IsPartyStep setup))) p lines replies q
      → Lead (AtPrice (IsLaneReply setup (base_of p.at))) (state_now p) lines replies (state_now q)
  lanes_legal p [] [] q own e = ap state_now e
  lanes_legal p [] (reply ∷ replies) q own e = absurd e
  lanes_legal p (line ∷ lines) [] q own e = absurd e
  lanes_legal p (line ∷ lines) (reply ∷ replies) q own (next, (step, cost), others) =
      let (still, same, is) = one_line (role_of_lane line.lane) p.at next.at line.line reply own step in (
        state_now next,
        (is, cost),
        subst (λ (base : ReleaseValue). Lead (AtPrice (IsLaneReply setup base)) (state_now next) lines replies (state_now q)) same (lanes_legal next lines replies q still others),
      )

  module _ (own last : Party) (from : HolderValue) (a b : Option (List ℕ)) (p q : ℕ) (is : role_of (with_none_held own) ≡ role.Custodian) (first : state_of (with_none_held own) ≡ state_at from [])
      (based : base_of (with_none_held own) ≡ from.start.base) where
    -- from where the custodian was
    from_custodian : (lines : List ScriptLine) (replies : List ReplyValue) → Lead (AtPrice (IsOwnedReply setup base_of chain_of (IsPartyStep setup))) (charged (with_none_held own) p) lines replies (charged last q)
        → Lead (AtPrice (IsLaneReply setup from.start.base)) (charged (state_at from []) p) lines replies (charged (state_of last) q)
    from_custodian lines replies h =
        subst (λ (x : ReleaseValue × StateValue). Lead (AtPrice (IsLaneReply setup x.0)) (charged x.1 p) lines replies (charged (state_of last) q)) (λ i. (based i, first i))
        (lanes_legal (charged (with_none_held own) p) lines replies (charged last q) is h)

    -- by how it ended
    pub run-owned : (lines : List ScriptLine) (end : RunEnd) → IsOwnedRun (IsOwnedReply setup base_of chain_of (IsPartyStep setup)) with_none_held lines end (charged own p) (charged last q) a b
        → IsRun setup from.start.base lines end (charged (state_at from []) p) q a b
    run-owned lines run_end.Done h = (state_of last, record { replies = h.replies; legal = from_custodian _ _ h.legal; took = h.took })
    run-owned lines run_end.WriteFault h = (state_of last, record { count = h.count; among = h.among; replies = h.replies; cut = h.cut; legal = from_custodian _ _ h.legal; part = h.part; took = h.took })
    run-owned lines run_end.Memory (none, stays) = (none, ap (λ (c : Charged Party). c.steps) stays)

-- ---- what was taken of a run, and what it cost
module _ (setup : SetupValue) (base : ReleaseValue) (lines : List ScriptLine) (first : Charged StateValue) (q : ℕ) (a b : Option (List ℕ)) where
  -- all of some replies
  pub run-all : IsRun setup base lines run_end.Done first q a b → (rs : List ReplyValue) × AreReplies (IsLaneReply setup base) first.at lines rs × Took a b (text_of rs) × (q ≤ first.steps + price_of rs)
  run-all (last, h) =
      let (lead, cost) = paid (IsLaneReply setup base) first lines h.replies (charged last q) h.legal in
      (h.replies, (last, lead), h.took, cost)

  -- or a part of some replies to all lines
  pub run-part : IsRun setup base lines run_end.WriteFault first q a b → (rs : List ReplyValue) × AreReplies (IsLaneReply setup base) first.at lines rs × TookPart a b (text_of rs) × (q ≤ first.steps + price_of rs)
  run-part (last, h) =
      let (lead, cost) = paid (IsLaneReply setup base) first _ _ (charged last q) h.legal in
      let (rs, are, took, more) = completed (IsLaneReply setup base) (λ s one. some_reply (role_of_lane one.lane) setup base s one.line) lines h.count first.at last h.replies h.cut h.part a b lead h.took in
      (rs, are, took, omega (arith, cost, more))

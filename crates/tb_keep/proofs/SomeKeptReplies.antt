-- A line of a script may always be answered so that all stays, so what was taken of a run that was cut short is a part of some replies to all lines.
use Rattle.std.proofs.Common.{refl, ℕ, ◌+◌, ◌≤◌, Bool, true, false, List, Option, inl, inr, arith}
use Rattle.tb_ahead.specs.Keeping.{IsKeptStep, KeptState}
use Rattle.tb_ahead.specs.Publishing.{StateValue}
use Rattle.tb_io.specs.Taken.{Took, TookPart}
use Rattle.tb_lines.specs.Outputs.{AreReplies, Charged, ReplyValue, price_of, text_of}
use Rattle.tb_lines.proofs.Completing.{completed}
use Rattle.tb_lines.proofs.Paying.{paid}
use Rattle.tb_model.specs.Releases.{ReleaseValue}
use Rattle.tb_model.specs.Setups.{SetupValue}
use Rattle.tb_script.specs.Scripts.{ScriptLine, role_of_lane}
use Rattle.tb_script.specs.declared.run.RunEnd.TheVariants as run_end
use Rattle.tb_session.specs.Asks.{asks_of}
use Rattle.tb_session.specs.Replies.{IsReply, IsReplyTo}
use Rattle.tb_session.specs.declared.asks.Asks.{Asks}
use Rattle.tb_session.specs.declared.asks.Asks.TheVariants as asks
use Rattle.tb_session.specs.declared.party.Role.{Role}
use Rattle.tb_session.specs.declared.party.Role.TheVariants as role
use Rattle.tb_session.proofs.SomeReplies.{some_reply}
use Rattle.tb_tables.specs.Answers.{free_reply}
use Rattle.tb_tables.specs.ReplyLines.{memory_line}
use Rattle.tb_keep.specs.KeptRuns.{IsKeptReply, IsKeptRun, IsKeptStepOf}
use Rattle.tb_keep.specs.Publishers.{IsOwnStep, asks_to_publish}

-- what has some reply has one after which the party stands where it stood
stays_by : (what : Asks) (setup : SetupValue) (base : ReleaseValue) (state : StateValue) (line : List ℕ) (reply : ReplyValue) (next : StateValue) → IsReplyTo what setup base state line reply next
    → (other : ReplyValue) × IsReplyTo what setup base state line other state
stays_by asks.Nothing setup base state line reply next (is, same) = (reply, (is, refl))
stays_by asks.Description setup base state line reply next (is, same) = (reply, (is, refl))
stays_by asks.Table setup base state line reply next (is, same) = (reply, (is, refl))
stays_by (asks.At n) setup base state line reply next (is, same) = (reply, (is, refl))
stays_by asks.Edit setup base state line reply next is = (free_reply memory_line, (refl, refl, inr (refl, inr (inr refl))))
stays_by asks.Publish setup base state line reply next is = (free_reply memory_line, (refl, inr (inr (refl, refl))))
stays_by asks.Stats setup base state line reply next (price, is, same) = (reply, (price, is, refl))
stays_by asks.Clear setup base state line reply next (is, same) = (reply, (is, refl))
stays_by (asks.Cache capacity) setup base state line reply next (price, is, same) = (reply, (price, is, refl))

module _ (setup : SetupValue) (base : ReleaseValue) where
  -- each line has
  stays : (who : Role) (state : StateValue) (line : List ℕ) → (reply : ReplyValue) × IsReply who setup base state line reply state
  stays who state line = let (reply, next, is) = some_reply who setup base state line in stays_by (asks_of who line) setup base state line reply next is

  -- to `publish` of a custodian who writes ahead it is that memory was refused, and nothing put
  own_stays : (asks : Bool) (s : KeptState) (line : List ℕ) → (reply : ReplyValue) × IsKeptStep asks (IsOwnStep setup base) base s line reply s
  own_stays true s line = (free_reply memory_line, (refl, (omega arith, refl, inr (inr (inr (refl, refl, inl (refl, refl)))))))
  own_stays false s line = let (reply, is) = stays role.Custodian s.state line in (reply, ((s.state, refl, is), refl))

  role_stays : (who : Role) (s : KeptState) (line : List ℕ) → (reply : ReplyValue) × IsKeptStepOf who setup base s line reply s
  role_stays role.Custodian s line = own_stays (asks_to_publish line) s line
  role_stays role.Analyst s line = let (reply, is) = stays role.Analyst s.state line in (reply, (refl, is))

  pub some_kept_reply : (s : KeptState) (line : ScriptLine) → (reply : ReplyValue) × IsKeptReply setup base s line reply s
  some_kept_reply s line = role_stays (role_of_lane line.lane) s line.line

  -- ---- what was taken of a run, and what it cost
  module _ (lines : List ScriptLine) (first last : Charged KeptState) (a b : Option (List ℕ)) where
    -- all of some replies
    pub kept-all : IsKeptRun setup base lines run_end.Done first last a b → (rs : List ReplyValue) × AreReplies (IsKeptReply setup base) first.at lines rs × Took a b (text_of rs) × (last.steps ≤ first.steps + price_of rs)
    kept-all h =
        let (lead, cost) = paid (IsKeptReply setup base) first lines h.replies last h.legal in
        (h.replies, (last.at, lead), h.took, cost)

    -- or a part of some replies to all lines
    pub kept-part : IsKeptRun setup base lines run_end.WriteFault first last a b → (rs : List ReplyValue) × AreReplies (IsKeptReply setup base) first.at lines rs × TookPart a b (text_of rs) × (last.steps ≤ first.steps + price_of rs)
    kept-part h =
        let (lead, cost) = paid (IsKeptReply setup base) first _ _ last h.legal in
        let some : (s : KeptState) (line : ScriptLine) → (reply : ReplyValue) × (next : KeptState) × IsKeptReply setup base s line reply next = λ s line. let (reply, is) = some_kept_reply s line in (reply, s, is) in
        let (rs, are, took, more) = completed (IsKeptReply setup base) some lines h.count first.at last.at h.replies h.cut h.part a b lead h.took in
        (rs, are, took, omega (arith, cost, more))

-- An analyst's reply, over the batches that were seen.
use mathlib.Core.List.{IsPrefix}
use Rattle.std.proofs.Common.{◌≡◌, subst, sym, refl, ℕ, Bool, true, false, List}
use Rattle.std.specs.Prelude.{if◌then◌else◌, Option, Some, None}
use Rattle.tb_base.specs.Words.{words_of}
use Rattle.tb_board.specs.Holders.{HolderValue}
use Rattle.tb_describe.specs.Descriptions.{is_description}
use Rattle.tb_front.specs.Holders.{IsLater, Name}
use Rattle.tb_front.proofs.Prefixes.{prefix_self}
use Rattle.tb_model.specs.Releases.{ReleaseValue}
use Rattle.tb_model.specs.Setups.{SetupValue}
use Rattle.tb_release.specs.Batches.{BatchValue}
use Rattle.tb_release.specs.Chains.{release_after}
use Rattle.tb_lines.specs.Lines.{is_passed_over}
use Rattle.tb_lines.specs.Outputs.{ReplyValue}
use Rattle.tb_session.specs.Parties.{IsAnalystOf, IsBehind, IsPartyOf, seen_by}
use Rattle.tb_ahead.specs.Publishing.{StateValue}
use Rattle.tb_session.specs.Asks.{asks_at_or}
use Rattle.tb_session.specs.PastLines.{past_number, past_query}
use Rattle.tb_session.specs.PastTables.{IsPastAnswer}
use Rattle.tb_session.specs.Replies.{IsReply, IsReplyTo, IsTableReply}
use Rattle.tb_session.specs.Transcripts.{Sees, SeesUnless}
use Rattle.tb_session.specs.declared.asks.Asks.TheVariants as asks
use Rattle.tb_session.specs.declared.party.Party.{Party}
use Rattle.tb_session.specs.declared.party.Party.TheVariants as party
use Rattle.tb_session.specs.declared.party.Role.{Role}
use Rattle.tb_session.specs.declared.party.Role.TheVariants as role

-- an analyst's reply changes nothing, and is one wherever the same batches were seen
over_any : (over describes : Bool) (number : Option ℕ) (setup : SetupValue) (base : ReleaseValue) (at after state : StateValue) (line : List ℕ) (reply : ReplyValue) → at.chain ≡ state.chain
    → IsReplyTo (if over then asks.Nothing else if describes then asks.Description else asks_at_or number asks.Table) setup base at line reply after
    → (after ≡ at) × IsReplyTo (if over then asks.Nothing else if describes then asks.Description else asks_at_or number asks.Table) setup base state line reply state
over_any true describes number setup base at after state line reply same (is, goes) = (goes, (is, refl))
over_any false true number setup base at after state line reply same (is, goes) = (goes, (is, refl))
over_any false false None setup base at after state line reply same (is, goes) = (goes, (subst (λ (chain : List BatchValue). IsTableReply setup (release_after base chain) line reply) same is, refl))
over_any false false (Some n) setup base at after state line reply same (is, goes) = (goes, (subst (λ (chain : List BatchValue). IsPastAnswer setup base chain n (past_query line) reply) same is, refl))

-- so it changes nothing
pub analyst_stays : (setup : SetupValue) (base : ReleaseValue) (at after : StateValue) (line : List ℕ) (reply : ReplyValue) → IsReply role.Analyst setup base at line reply after → after ≡ at
analyst_stays setup base at after line reply is = (over_any (is_passed_over line) (is_description line) (past_number (words_of line)) setup base at after at line reply refl is).0

-- and is one wherever they were
pub analyst_anywhere : (setup : SetupValue) (base : ReleaseValue) (at after state : StateValue) (line : List ℕ) (reply : ReplyValue) → at.chain ≡ state.chain → IsReply role.Analyst setup base at line reply after → IsReply role.Analyst setup base state line reply state
analyst_anywhere setup base at after state line reply same is = (over_any (is_passed_over line) (is_description line) (past_number (words_of line)) setup base at after state line reply same is).1

-- ---- what is seen at a line
-- no batch is gone
seen_as : (describes : Bool) (before at : StateValue) → SeesUnless describes before at → IsPrefix before.chain at.chain
seen_as true before at same = subst (λ (s : StateValue). IsPrefix before.chain s.chain) (sym same) (prefix_self before.chain)
seen_as false before at (begins, held) = begins

pub seen_begins : (line : List ℕ) (before at : StateValue) → Sees role.Analyst line before at → IsPrefix before.chain at.chain
seen_begins line before at sees = seen_as (is_description line) before at sees

-- there may be nothing new
as_before : (describes : Bool) (state : StateValue) → SeesUnless describes state state
as_before true state = refl
as_before false state = (prefix_self state.chain, refl)

pub sees_itself : (who : Role) (line : List ℕ) (state : StateValue) → Sees who line state state
sees_itself role.Analyst line state = as_before (is_description line) state
sees_itself role.Custodian line state = refl

-- ---- parties whose pass is confirmed
pub party_front : (name : Name) (shape : List ℕ) (p : Party) → IsPartyOf name shape p → (seen_by p).name ≡ name
party_front name shape (party.Analyst pass) is = is.front
party_front name shape (party.Custodian custodian held) is = is.front

pub analyst_front : (name : Name) (shape : List ℕ) (p : Party) → IsAnalystOf name shape p → (seen_by p).name ≡ name
analyst_front name shape (party.Analyst pass) is = is.front
analyst_front name shape (party.Custodian custodian held) is = absurd is

pub analyst_behind : (name : Name) (shape : List ℕ) (w : HolderValue) (p : Party) → IsAnalystOf name shape p → IsBehind w p → IsLater (seen_by p) w
analyst_behind name shape w (party.Analyst pass) is behind = behind
analyst_behind name shape w (party.Custodian custodian held) is behind = absurd is

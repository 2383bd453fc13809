-- The custodian's party before and after a line.
use Rattle.std.proofs.Common.{◌≡◌, ap, subst, sym, refl, ℕ, ◌≤◌, List, [], length, All, inl, inr}
use Rattle.std.proofs.lemmas.List.Elements.{All-nil, All-push}
use Rattle.tb_ahead.specs.Publishing.{StateValue, let_go}
use Rattle.tb_board.specs.Starts.{StartValue}
use Rattle.tb_front.specs.Holders.{Name}
use Rattle.tb_lines.specs.Outputs.{ReplyValue}
use Rattle.tb_model.specs.Releases.{ReleaseValue}
use Rattle.tb_model.specs.Setups.{SetupValue}
use Rattle.tb_release.specs.declared.edits.Edit.{Edit}
use Rattle.tb_session.specs.Asks.{asks_of}
use Rattle.tb_session.specs.Parties.{GoesOn, IsPartyOf, role_of, seen_by, state_of}
use Rattle.tb_release.specs.Laws.{EditFits}
use Rattle.tb_session.specs.PartySessions.{with_none_held}
use Rattle.tb_session.specs.Replies.{IsReplyTo}
use Rattle.tb_session.specs.Transcripts.{IsStep}
use Rattle.tb_session.specs.declared.asks.Asks.{Asks}
use Rattle.tb_session.specs.declared.asks.Asks.TheVariants as asks
use Rattle.tb_session.specs.declared.party.Party.{Party}
use Rattle.tb_session.specs.declared.party.Party.TheVariants as party
use Rattle.tb_session.specs.declared.party.Role.{Role}
use Rattle.tb_session.specs.declared.party.Role.TheVariants as role
use Rattle.tb_spelling.specs.declared.limits.TheConstants.{MOST_PARTS}
use Rattle.tb_spelling.specs.Payloads.{CanBeWritten}
use Rattle.tb_keep.specs.Publishers.{CanWriteAhead, IsOwnStep}
use Rattle.tb_keep.proofs.Writable.{can_be_written}

-- it is a party of the board
pub owner_party : (name : Name) (shape : List ℕ) (p : Party) → CanWriteAhead name shape p → IsPartyOf name shape p
owner_party name shape (party.Analyst pass) is = absurd is.owner
owner_party name shape (party.Custodian custodian held) is = is.owner

-- its step is the custodian's
pub owner_step : (name : Name) (shape : List ℕ) (setup : SetupValue) (p q : Party) (line : List ℕ) (reply : ReplyValue) → CanWriteAhead name shape p
    → IsStep (role_of p) setup (seen_by p).start.base (state_of p) line reply (state_of q) → IsOwnStep setup (seen_by p).start.base (state_of p) line reply (state_of q)
owner_step name shape setup (party.Analyst pass) q line reply is step = absurd is.owner
owner_step name shape setup (party.Custodian custodian held) q line reply is step = step

-- it goes on over the same release 0
pub same_base : (p q : Party) → GoesOn p q → (seen_by q).start.base ≡ (seen_by p).start.base
same_base p q goes = ap (λ (s : StartValue). s.base) goes.start

-- ---- as it begins a session

pub fresh_owner : (name : Name) (shape : List ℕ) (p : Party) → CanWriteAhead name shape p → CanWriteAhead name shape (with_none_held p)
fresh_owner name shape (party.Analyst pass) is = absurd is.owner
fresh_owner name shape (party.Custodian custodian held) is = record {
  owner = record { front = is.owner.front; fits = is.owner.fits; whole = is.owner.whole; edits = All-nil (EditFits shape) };
  each = All-nil CanBeWritten;
}

pub fresh_base : (p : Party) → (seen_by (with_none_held p)).start.base ≡ (seen_by p).start.base
fresh_base (party.Analyst pass) = refl
fresh_base (party.Custodian custodian held) = refl

pub fresh_state : (p : Party) → state_of (with_none_held p) ≡ let_go (state_of p)
fresh_state (party.Analyst pass) = refl
fresh_state (party.Custodian custodian held) = refl

-- ---- the edits that it holds

abbrev AreWritable : StateValue → Type 0
AreWritable state = All CanBeWritten state.held

abbrev AreThese : List Edit → Type 0
AreThese held = All CanBeWritten held

none-held : (next : StateValue) (chain : _) → next ≡ record { chain = chain; held = [] } → AreWritable next
none-held next chain goes = subst AreWritable (sym goes) (All-nil CanBeWritten)

-- whatever the line asks for, each that is held after it can be written
writable-after : (what : Asks) (setup : SetupValue) (base : ReleaseValue) (state : StateValue) (line : List ℕ) (reply : ReplyValue) (next : StateValue) → length setup.schema.variables ≤ MOST_PARTS
    → IsReplyTo what setup base state line reply next → AreWritable state → AreWritable next
writable-after asks.Nothing setup base state line reply next few is held = subst AreWritable (sym is.1) held
writable-after asks.Description setup base state line reply next few is held = subst AreWritable (sym is.1) held
writable-after asks.Table setup base state line reply next few is held = subst AreWritable (sym is.1) held
writable-after (asks.At n) setup base state line reply next few is held = subst AreWritable (sym is.1) held
writable-after asks.Edit setup base state line reply next few (price, chain, inl (edit, reads, room, text, after)) held =
    subst AreThese (sym after) (All-push CanBeWritten state.held edit held (can_be_written setup.schema line edit few reads))
writable-after asks.Edit setup base state line reply next few (price, chain, inr (same, why)) held = subst AreThese (sym same) held
writable-after asks.Publish setup base state line reply next few (price, inl (can, text, goes)) held = none-held next _ goes
writable-after asks.Publish setup base state line reply next few (price, inr (inl (kind, edit, why, text, goes))) held = none-held next _ goes
writable-after asks.Publish setup base state line reply next few (price, inr (inr (text, same))) held = subst AreWritable (sym same) held
writable-after asks.Stats setup base state line reply next few is held = subst AreWritable (sym is.2) held
writable-after asks.Clear setup base state line reply next few is held = subst AreWritable (sym is.1) held
writable-after (asks.Cache capacity) setup base state line reply next few is held = subst AreWritable (sym is.2) held

stays-writable : (setup : SetupValue) (base : ReleaseValue) (old : StateValue) (line : List ℕ) (reply : ReplyValue) (new : StateValue) → length setup.schema.variables ≤ MOST_PARTS
    → IsOwnStep setup base old line reply new → AreWritable old → AreWritable new
stays-writable setup base old line reply new few (at, same, is) held = writable-after (asks_of role.Custodian line) setup base at line reply new few is (subst AreWritable (sym same) held)

abbrev IsCustodian : Role → Type 0
IsCustodian role.Analyst = ⊥
IsCustodian role.Custodian = Unit {0}

-- after a line each edit that it holds can be written too
pub owner_after : (name : Name) (shape : List ℕ) (setup : SetupValue) (p q : Party) (line : List ℕ) (reply : ReplyValue) → length setup.schema.variables ≤ MOST_PARTS → CanWriteAhead name shape p → IsPartyOf name shape q → GoesOn p q
    → IsStep (role_of p) setup (seen_by p).start.base (state_of p) line reply (state_of q) → CanWriteAhead name shape q
owner_after name shape setup (party.Analyst pass) q line reply few is own goes step = absurd is.owner
owner_after name shape setup (party.Custodian custodian held) (party.Analyst pass) line reply few is own goes step = absurd (subst IsCustodian (sym goes.who) tt)
owner_after name shape setup (party.Custodian custodian held) (party.Custodian later after) line reply few is own goes step = record {
  owner = own;
  each = stays-writable setup custodian.writer.start.base (state_of (party.Custodian custodian held)) line reply (state_of (party.Custodian later after)) few step is.each;
}

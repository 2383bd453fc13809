-- The parties of a board as the program keeps them, and what an answered line makes of one.
use Rattle.std.specs.Prelude.{◌≡◌, ◌⊎◌, ◌≤◌, ◌+◌, ℕ, List, [], All, Option}
use Rattle.tb_board.specs.Custodians.{CustodianValue, IsWhole}
use Rattle.tb_board.specs.Holders.{HolderValue, IsChainSeen, release_seen}
use Rattle.tb_front.specs.Holders.{IsLater, Name}
use Rattle.tb_io.specs.Taken.{IsWritten}
use Rattle.tb_io.specs.declared.answers.Wrote.{Wrote}
use Rattle.tb_model.specs.Releases.{ReleaseValue}
use Rattle.tb_model.specs.Setups.{SetupValue}
use Rattle.tb_release.specs.Laws.{EditFits}
use Rattle.tb_release.specs.declared.edits.Edit.{Edit}
use Rattle.tb_lines.specs.Outputs.{ReplyValue}
use Rattle.tb_ahead.specs.Publishing.{IsPublishReply, StateValue}
use Rattle.tb_session.specs.Transcripts.{IsStep}
use Rattle.tb_session.specs.declared.party.Party.{Party}
use Rattle.tb_session.specs.declared.party.Party.TheVariants as party
use Rattle.tb_session.specs.declared.party.Role.{Role}
use Rattle.tb_session.specs.declared.party.Role.TheVariants as role

-- a pass is of the front of this name, and its chain's records are of this shape
pub record IsPassOf (name : Name) (shape : List ℕ) (pass : HolderValue) : Type 0 where
  pub front : pass.name ≡ name
  pub fits : pass.start.shape ≡ shape

-- a custodian is of the front of this name, it is whole, and the records of its chain and the held
-- edits are of this shape
pub record IsCustodianOf (name : Name) (shape : List ℕ) (custodian : CustodianValue)
    (held : List Edit) : Type 0 where
  pub front : custodian.writer.name ≡ name
  pub fits : custodian.writer.start.shape ≡ shape
  pub whole : IsWhole custodian
  pub edits : All (EditFits shape) held

-- a party of the front of this name, over this shape
abbrev pub IsPartyOf : Name → List ℕ → Party → Type 0
IsPartyOf name shape (party.Analyst pass) = IsPassOf name shape pass
IsPartyOf name shape (party.Custodian custodian held) = IsCustodianOf name shape custodian held

-- an analyst of the front of this name, over this shape
abbrev pub IsAnalystOf : Name → List ℕ → Party → Type 0
IsAnalystOf name shape (party.Analyst pass) = IsPassOf name shape pass
IsAnalystOf name shape (party.Custodian custodian held) = ⊥

-- the custodian of the front of this name, over this shape
abbrev pub IsOwnerOf : Name → List ℕ → Party → Type 0
IsOwnerOf name shape (party.Analyst pass) = ⊥
IsOwnerOf name shape (party.Custodian custodian held) = IsCustodianOf name shape custodian held

-- an analyst has then seen what it had, and what another holder has
abbrev pub Learns : HolderValue → Party → Party → Type 0
Learns seen (party.Analyst old) (party.Analyst new) = IsLater old new × IsLater seen new
Learns seen (party.Analyst old) (party.Custodian custodian held) = ⊥
Learns seen (party.Custodian custodian held) new = ⊥

-- an analyst has seen a beginning of what the custodian's writer wrote
abbrev pub IsBehind : HolderValue → Party → Type 0
IsBehind writer (party.Analyst pass) = IsLater pass writer
IsBehind writer (party.Custodian custodian held) = Unit {0}

-- whether it is an analyst or the custodian
abbrev pub role_of : Party → Role
role_of (party.Analyst pass) = role.Analyst
role_of (party.Custodian custodian held) = role.Custodian

-- what it has seen: an analyst's pass, and what the custodian's writer wrote
abbrev pub seen_by : Party → HolderValue
seen_by (party.Analyst pass) = pass
seen_by (party.Custodian custodian held) = custodian.writer

-- the edits that it holds
abbrev pub held_by : Party → List Edit
held_by (party.Analyst pass) = []
held_by (party.Custodian custodian held) = held

-- where one stands that has seen this and holds these edits
abbrev pub state_at : HolderValue → List Edit → StateValue
state_at seen held = record { chain = seen.list; held = held }

-- where a party stands
abbrev pub state_of : Party → StateValue
state_of one = state_at (seen_by one) (held_by one)

-- a party is still the same one, of the same front, over the same release 0
pub record GoesOn (old new : Party) : Type 0 where
  pub who : role_of new ≡ role_of old
  pub front : (seen_by new).name ≡ (seen_by old).name
  pub start : (seen_by new).start ≡ (seen_by old).start

-- a pass has seen what it had, or the chain of a turn
abbrev pub SawTurn : HolderValue → HolderValue → Type 0
SawTurn old new = (new ≡ old) ⊎ IsChainSeen new

-- so has an analyst; of the custodian its transcript tells what it has seen
abbrev pub HasSeen : Party → Party → Type 0
HasSeen (party.Analyst old) (party.Analyst new) = SawTurn old new
HasSeen (party.Analyst old) (party.Custodian new after) = ⊥
HasSeen (party.Custodian old held) new = Unit {0}

-- a party's line was answered: what was taken is one reply, or a first part of it where the write
-- failed; the reply is legal, and leads to where the party stands then; and it cost no more than
-- its price
pub record IsAnswered (setup : SetupValue) (old : Party) (line : List ℕ) (new : Party)
    (result : Wrote) (faults faults' : ℕ) (taken taken' : Option (List ℕ))
    (before after : ℕ) : Type 0 where
  pub goes_on : GoesOn old new
  pub seen : HasSeen old new
  pub reply : ReplyValue
  pub step : IsStep (role_of old) setup (seen_by old).start.base (state_of old) line reply
      (state_of new)
  pub written : IsWritten result faults faults' taken taken' reply.text
  pub cost : after ≤ before + reply.price

-- ---- what the functions below `answer` say

-- `publish` leads from one custodian and its held edits to others with this text
pub record PublishLeads (old : CustodianValue) (held : List Edit) (text : List ℕ)
    (new : CustodianValue) (after : List Edit) : Type 0 where
  pub front : new.writer.name ≡ old.writer.name
  pub start : new.writer.start ≡ old.writer.start
  pub is_reply : IsPublishReply (release_seen old.writer) (state_at old.writer held) text
      (state_at new.writer after)

-- a line gets this text, which leads to where the party stands then, at no more than its price
pub record Leads (who : Role) (setup : SetupValue) (base : ReleaseValue) (old : StateValue)
    (line text : List ℕ) (before after : ℕ) (new : StateValue) : Type 0 where
  pub price : ℕ
  pub step : IsStep who setup base old line (record { text = text; price = price }) new
  pub cost : after ≤ before + price

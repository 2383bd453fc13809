-- The custodian's party, whose held edits can be written ahead.
use Rattle.std.specs.Prelude.{ℕ, Bool, true, false, List, All}
use Rattle.tb_ahead.specs.Publishing.{StateValue}
use Rattle.tb_front.specs.Holders.{Name}
use Rattle.tb_lines.specs.Outputs.{ReplyValue}
use Rattle.tb_model.specs.Releases.{ReleaseValue}
use Rattle.tb_model.specs.Setups.{SetupValue}
use Rattle.tb_session.specs.Asks.{asks_of}
use Rattle.tb_session.specs.Parties.{IsOwnerOf, held_by}
use Rattle.tb_session.specs.Transcripts.{IsStep}
use Rattle.tb_session.specs.declared.asks.Asks.{Asks}
use Rattle.tb_session.specs.declared.asks.Asks.TheVariants as asks
use Rattle.tb_session.specs.declared.party.Party.{Party}
use Rattle.tb_session.specs.declared.party.Role.TheVariants as role
use Rattle.tb_spelling.specs.Payloads.{CanBeWritten}

-- the custodian of the front of this name, over this shape, each of whose held edits can be written
pub record CanWriteAhead (name : Name) (shape : List ℕ) (party : Party) : Type 0 where
  pub owner : IsOwnerOf name shape party
  pub each : All CanBeWritten (held_by party)

-- whether it is to publish
abbrev pub is_publish : Asks → Bool
is_publish asks.Nothing = false
is_publish asks.Description = false
is_publish asks.Table = false
is_publish (asks.At n) = false
is_publish asks.Edit = false
is_publish asks.Publish = true
is_publish asks.Stats = false
is_publish asks.Clear = false
is_publish (asks.Cache capacity) = false

-- whether a line of the custodian asks to publish
abbrev pub asks_to_publish : List ℕ → Bool
asks_to_publish line = is_publish (asks_of role.Custodian line)

-- a line of the custodian leads from where it stands to where it stands then, with this reply
abbrev pub IsOwnStep : SetupValue → ReleaseValue → StateValue → List ℕ → ReplyValue → StateValue
    → Type 0
IsOwnStep = IsStep role.Custodian

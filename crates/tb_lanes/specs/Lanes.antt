-- What became of lanes in a phase.
use Rattle.std.specs.Prelude.{◌≡◌, ℕ, Bool, true, false, List, [], ◌∷◌, Option, Some}
use Rattle.tb_board.specs.Holders.{HolderValue}
use Rattle.tb_front.specs.Holders.{IsLater}
use Rattle.tb_io.specs.Taken.{Took}
use Rattle.tb_model.specs.Setups.{SetupValue}
use Rattle.tb_lanes.specs.declared.lane.Lane.{Lane}
use Rattle.tb_lanes.specs.Phases.{lines_at}
use Rattle.tb_script.specs.Scripts.{ScriptValue}
use Rattle.tb_lines.specs.Outputs.{Lead, ReplyValue, text_of}
use Rattle.tb_session.specs.Parties.{seen_by}
use Rattle.tb_session.specs.PartySessions.{IsPartyStep}
use Rattle.tb_session.specs.declared.party.Party.{Party}

-- whether there is a line
abbrev pub has_some : List (List ℕ) → Bool
has_some [] = false
has_some (line ∷ lines) = true

-- a party's lines were answered into a sink that was empty: it tells the replies, which are legal
-- and lead from what the party was to what it is
pub record Ran (setup : SetupValue) (lines : List (List ℕ)) (old : Party)
    (sink : Option (List ℕ)) (spoke : Bool) (new : Party) : Type 0 where
  pub replies : List ReplyValue
  pub legal : Lead (IsPartyStep setup) old lines replies new
  pub took : Took (Some []) sink (text_of replies)
  pub had_lines : spoke ≡ has_some lines

-- a line of a lane was answered
pub record IsLineAnswered {G : Type 0} (setup : SetupValue) (line : List ℕ) (old new : Lane G)
    : Type 0 where
  pub reply : ReplyValue
  pub step : IsPartyStep setup old.party line reply new.party
  pub took : Took old.sink new.sink reply.text

-- a lane's lines in a phase were answered
abbrev pub HasRun : {G : Type 0} → SetupValue → ScriptValue → ℕ → ℕ → Lane G → Lane G → Type 0
HasRun setup script phase n old new =
    Ran setup (lines_at script phase n) old.party new.sink new.spoke new.party

-- the analyst of a lane has learnt what another holder has seen
pub record IsTold {G : Type 0} (seen : HolderValue) (old new : Lane G) : Type 0 where
  pub own : IsLater (seen_by old.party) (seen_by new.party)
  pub told : IsLater seen (seen_by new.party)

-- a lane stays, and its analyst has seen a beginning of what the custodian wrote
pub record IsConfirmed {G : Type 0} (writer : HolderValue) (old new : Lane G) : Type 0 where
  pub same : new ≡ old
  pub behind : IsLater (seen_by old.party) writer

-- What a phase makes of the custodian and of the lanes.
use Rattle.std.specs.Prelude.{◌≡◌, ◌≢◌, ◌<◌, ℕ, List, [], Option, Some, None, length}
use Rattle.std.specs.Prelude.{slice_index_or}
use mathlib.Core.List.{IsPrefix}
use Rattle.tb_front.specs.Holders.{IsLater}
use Rattle.tb_model.specs.Releases.{ReleaseValue}
use Rattle.tb_model.specs.Setups.{SetupValue}
use Rattle.tb_lanes.specs.declared.lane.Lane.{Lane}
use Rattle.tb_lanes.specs.Lanes.{Ran, has_some}
use Rattle.tb_lanes.specs.Phases.{Standing, lane_at, lines_at}
use Rattle.tb_script.specs.Scripts.{ScriptValue, lanes_of, role_of_lane}
use Rattle.tb_session.specs.Parties.{GoesOn, role_of, seen_by, state_of}
use Rattle.tb_session.specs.declared.party.Party.{Party}
use Rattle.tb_session.specs.declared.party.Role.{Role}
use Rattle.tb_session.specs.declared.party.Role.TheVariants as role

-- which lane of a script is the custodian's, if one is
abbrev pub IsOwner : ScriptValue → Option ℕ → Type 0
IsOwner script None =
    (n : ℕ) → n < length (lanes_of script.lines) → role_of_lane (lane_at script n) ≡ role.Analyst
IsOwner script (Some k) =
    (k < length (lanes_of script.lines)) × (role_of_lane (lane_at script k) ≡ role.Custodian)

-- a lane with another party
abbrev pub with_party : {G : Type 0} → Party → Lane G → Lane G
with_party one lane = record lane { party = one }

-- the custodian takes the place of its lane's party, and that its own
abbrev pub IsSwapped : {G : Type 0} → Option ℕ → Party → Party → List (Lane G) → List (Lane G)
    → Type 0
IsSwapped None own own' lanes lanes' = (own' ≡ own) × (lanes' ≡ lanes)
IsSwapped {G} (Some k) own own' lanes lanes' =
    (length lanes' ≡ length lanes)
    × ((d : Lane G) → own' ≡ (slice_index_or lanes k d).party)
    × ((d : Lane G) → slice_index_or lanes' k d ≡ with_party own (slice_index_or lanes k d))
    × ((n : ℕ) (d : Lane G) → n < length lanes → n ≢ k
    → slice_index_or lanes' n d ≡ slice_index_or lanes n d)

-- an analyst learnt what the custodian had seen, its lane's lines were answered, and it was
-- confirmed
pub record AnalystRan {G : Type 0} (setup : SetupValue) (lines : List (List ℕ)) (own own' : Party)
    (old new : Lane G) : Type 0 where
  pub from : Party
  pub analyst : role_of from ≡ role.Analyst
  pub before : IsLater (seen_by old.party) (seen_by from)
  pub told : IsLater (seen_by own) (seen_by from)
  pub ran : Ran setup lines from new.sink new.spoke new.party
  pub behind : IsLater (seen_by new.party) (seen_by own')

-- a lane's lines in a phase were answered, by who answers them
abbrev pub LaneRan : {G : Type 0} → Role → SetupValue → List (List ℕ) → Party → Party → Lane G
    → Lane G → Type 0
LaneRan role.Custodian setup lines own own' old new =
    Ran setup lines own new.sink new.spoke own'
LaneRan role.Analyst setup lines own own' old new = AnalystRan setup lines own own' old new

-- the lines of all lanes in a phase were answered
pub record PhaseRan {G : Type 0} (setup : SetupValue) (script : ScriptValue) (phase : ℕ)
    (own own' : Party) (lanes lanes' : List (Lane G)) : Type 0 where
  pub same_length : length lanes' ≡ length lanes
  pub goes_on : GoesOn own own'
  pub none : IsOwner script None → own' ≡ own
  pub lanes_ran : (n : ℕ) (d : Lane G) → n < length lanes
      → LaneRan (role_of_lane (lane_at script n)) setup (lines_at script phase n) own own'
      (slice_index_or lanes n d) (slice_index_or lanes' n d)

-- the sinks of lanes tell these texts
abbrev pub Tell : {G : Type 0} → (ℕ → List ℕ) → List (Lane G) → Type 0
Tell {G} texts lanes =
    (n : ℕ) (d : Lane G) → n < length lanes → (slice_index_or lanes n d).sink ≡ Some (texts n)

-- each lane knows whether it had a line in a phase
abbrev pub KnowLines : {G : Type 0} → ScriptValue → ℕ → List (Lane G) → Type 0
KnowLines {G} script phase lanes =
    (n : ℕ) (d : Lane G) → n < length lanes
    → (slice_index_or lanes n d).spoke ≡ has_some (lines_at script phase n)

-- the parties stand so between two phases, over this release 0
pub record Stand {G : Type 0} (base : ReleaseValue) (script : ScriptValue) (own : Party)
    (lanes : List (Lane G)) (standing : Standing) : Type 0 where
  pub over : (seen_by own).start.base ≡ base
  pub custodian : standing.custodian ≡ state_of own
  pub analysts : (n : ℕ) (d : Lane G) → n < length lanes
      → role_of_lane (lane_at script n) ≡ role.Analyst
      → IsPrefix (standing.seen n) (seen_by (slice_index_or lanes n d).party).list

-- What analysts saw is on the disk, and what a session kept stays there. Nothing here speaks of the
-- program.
use Rattle.std.specs.Prelude.{◌≡◌, ℕ, Bool, List, Option, is_none}
use mathlib.Core.List.{IsPrefix}
use Rattle.tb_ahead.specs.Keepers.{KeeperValue, KeepsTo, at_start}
use Rattle.tb_ahead.specs.Keeping.{KeptState}
use Rattle.tb_ahead.specs.Publishing.{StateValue, let_go}
use Rattle.tb_journal_file.specs.Files.{EachStandsFor, IsFileOf}
use Rattle.tb_keep.specs.Chains.{IsTheirs, batches_of}
use Rattle.tb_keep.specs.Publishers.{IsOwnStep, asks_to_publish}
use Rattle.tb_keep.specs.Staying.{BeginsWith, StayKept, StayPublished, standing}
use Rattle.tb_lines.specs.Outputs.{Lead, ReplyValue}
use Rattle.tb_model.specs.Releases.{ReleaseValue}
use Rattle.tb_model.specs.Setups.{SetupValue}
use Rattle.tb_release.specs.Batches.{BatchValue}
use Rattle.tb_release.specs.declared.edits.Edit.{Edit}
use Rattle.tb_session.specs.Transcripts.{IsLegal}
use Rattle.tb_session.specs.declared.party.Role.TheVariants as role
use Rattle.tb_worker.specs.Visits.{AreVisits, Visit}

-- a file stands for some batches, and these ones of a chain are a beginning of what they lead to
abbrev pub HasAll : ReleaseValue → List BatchValue → List ℕ → Type 0
HasAll base seen file =
    (batches : List (List Edit)) × IsFileOf batches file × IsPrefix seen (batches_of base batches)

-- an analyst stood here at some line of some session: the replies to the lines from there on led to
-- where that session ended, and the sessions after it to where the last one ended
pub record HasStood (setup : SetupValue) (base : ReleaseValue) (here last : StateValue)
    : Type 0 where
  pub lines : List (List ℕ)
  pub replies : List ReplyValue
  pub ended : StateValue
  pub legal : IsLegal role.Analyst setup base here lines replies ended
  pub later : List Visit
  pub lead : AreVisits (IsLegal role.Analyst setup base) let_go ended later last

-- where an analyst's sessions end at a beginning of a custodian's chain, the batches that it had
-- seen at any line of them are a beginning of what each file stands for that a stop may leave where
-- the custodian stands
abbrev pub IsDurable : Type 0
IsDurable =
    (setup : SetupValue) (base : ReleaseValue) (at : KeptState) (here last : StateValue)
    (file : List ℕ) → IsTheirs base at → HasStood setup base here last
    → IsPrefix last.chain at.state.chain
    → EachStandsFor (λ image. image ≡ file) at.batches at.further → HasAll base here.chain file

-- ---- a custodian, and the disk that its batches are written ahead on, by its ghost members
module _ {W D : Type 0} (disk : W → D) (content : D → Option (List ℕ))
    (may_leave : D → List ℕ → Type 0) (moment : D → ℕ) (left_since : D → ℕ → List ℕ → Type 0)
    (Continues : W → W → Type 0) (live : W → Bool) (faults : W → ℕ) where
  -- lines of the custodian's led it from one place to another, by these replies
  abbrev pub AreOwnLines : SetupValue → KeeperValue W → List (List ℕ) → List ReplyValue
      → KeeperValue W → Type 0
  AreOwnLines setup = Lead (KeepsTo Continues live faults
      (standing disk content may_leave moment left_since Continues live faults) (IsOwnStep setup)
      asks_to_publish)

  -- sessions did so
  abbrev pub AreSessions : SetupValue → KeeperValue W → List Visit → KeeperValue W → Type 0
  AreSessions setup = AreVisits (AreOwnLines setup) at_start

  -- each file that a stop since the first place may have left stands for a beginning of the
  -- batches at the second, and a further one, that has all these batches
  abbrev pub StaysFrom : List (List Edit) → KeeperValue W → KeeperValue W → Type 0
  StaysFrom = StayKept disk content may_leave moment left_since Continues live faults

  -- what each file stands for that a stop may leave where a session of the custodian's returned, no
  -- stop since takes back, whatever sessions come after
  abbrev pub StaysKept : Type 0
  StaysKept =
      (setup : SetupValue) (old new : KeeperValue W) (later : List Visit)
      (batches : List (List Edit)) (further : Option (List Edit))
      → is_none further ≡ live old.ahead
      → EachStandsFor (may_leave (disk old.ahead)) batches further
      → AreSessions setup old later new → StaysFrom batches old new

  -- a custodian came from one place to another at a line's return: by some sessions, and then by
  -- lines of one more
  pub record HasCome (setup : SetupValue) (first here : KeeperValue W) : Type 0 where
    pub before : KeeperValue W
    pub earlier : List Visit
    pub sessions : AreSessions setup first earlier before
    pub lines : List (List ℕ)
    pub replies : List ReplyValue
    pub lead : AreOwnLines setup (at_start before) lines replies here

  -- and went on from there: by the other lines of that session, and then by some sessions
  pub record HasGoneOn (setup : SetupValue) (here new : KeeperValue W) : Type 0 where
    pub ended : KeeperValue W
    pub lines : List (List ℕ)
    pub replies : List ReplyValue
    pub lead : AreOwnLines setup here lines replies ended
    pub later : List Visit
    pub sessions : AreSessions setup ended later new

  -- what was published where a line of a session returned, no stop since takes back, whatever lines
  -- and sessions come after, from a recovered journal on
  abbrev pub StaysPublished : Type 0
  StaysPublished =
      (setup : SetupValue) (first here new : KeeperValue W) (batches : List (List Edit))
      → BeginsWith disk content may_leave moment left_since Continues live faults batches first
      → HasCome setup first here → HasGoneOn setup here new
      → StayPublished disk content may_leave moment left_since Continues live faults here new

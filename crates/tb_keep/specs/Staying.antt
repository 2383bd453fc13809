-- What a custodian kept who writes its batches ahead stays kept. Nothing here speaks of the
-- program.
use Rattle.std.specs.Prelude.{◌≡◌, ℕ, Bool, true, List, Option, None, is_none}
use Rattle.tb_ahead.specs.Keepers.{IsAt, KeeperValue, KeepsTo}
use Rattle.tb_ahead.specs.Keeping.{KeptState}
use Rattle.tb_ahead.specs.Puts.{FileStands}
use Rattle.tb_disk.specs.Images.{WhereTold}
use Rattle.tb_journal_file.specs.Files.{AreLeft, EachStandsBetween, EachStandsFor, all_of}
use Rattle.tb_keep.specs.Chains.{batches_of}
use Rattle.tb_keep.specs.Publishers.{IsOwnStep, asks_to_publish}
use Rattle.tb_lines.specs.Outputs.{AtPrice, Charged, Lead, ReplyValue}
use Rattle.tb_model.specs.Setups.{SetupValue}
use Rattle.tb_release.specs.declared.edits.Edit.{Edit}
use Rattle.tb_script.specs.Runs.{IsOwnedReply}
use Rattle.tb_script.specs.Scripts.{ScriptLine}

-- of a custodian, and the disk that its batches are written ahead on, by its ghost members
module _ {W D : Type 0} (disk : W → D) (content : D → Option (List ℕ))
    (may_leave : D → List ℕ → Type 0) (moment : D → ℕ) (left_since : D → ℕ → List ℕ → Type 0)
    (Continues : W → W → Type 0) (live : W → Bool) (faults : W → ℕ) where
  -- what the file stands for, now and since some moment
  abbrev pub standing : W → FileStands
  standing ahead = AreLeft (content (disk ahead)) (may_leave (disk ahead)) (moment (disk ahead))
      (left_since (disk ahead))

  -- each file that a stop since the first place may have left stands for a beginning of the
  -- batches at the second, and a further one, that has all these batches
  pub record StayKept (batches : List (List Edit)) (old new : KeeperValue W) : Type 0 where
    pub last : KeptState
    pub stands : IsAt (standing new.ahead) (live new.ahead) (faults new.ahead) new.state last
    pub ever : WhereTold (content (disk new.ahead))
        (λ _. EachStandsBetween (left_since (disk new.ahead))
        (record { moment = moment (disk old.ahead); batches = batches })
        (all_of last.batches last.further))

  -- a custodian stands where a journal was recovered: that is live, his chain is that of its
  -- batches, and for these each file stands that a stop may leave
  pub record BeginsWith (batches : List (List Edit)) (one : KeeperValue W) : Type 0 where
    pub lives : live one.ahead ≡ true
    pub theirs : one.state.chain ≡ batches_of one.base batches
    pub stands : EachStandsFor (may_leave (disk one.ahead)) batches None

  -- the batches of his chain at the first place stay kept
  pub record StayPublished (old new : KeeperValue W) : Type 0 where
    pub batches : List (List Edit)
    pub theirs : old.state.chain ≡ batches_of old.base batches
    pub stay : StayKept batches old new

  -- lines of a script led him from one place to another, by these replies
  abbrev pub AreLines : SetupValue → Charged (KeeperValue W) → List ScriptLine → List ReplyValue
      → Charged (KeeperValue W) → Type 0
  AreLines setup = Lead (AtPrice (IsOwnedReply setup (λ (one : KeeperValue W). one.base)
      (λ (one : KeeperValue W). one.state.chain)
      (KeepsTo Continues live faults standing (IsOwnStep setup) asks_to_publish)))

  -- what each file stands for that a stop may leave where a line returned, no stop since takes
  -- back, whatever lines come after
  abbrev pub LinesStayKept : Type 0
  LinesStayKept =
      (setup : SetupValue) (old new : Charged (KeeperValue W)) (later : List ScriptLine)
      (replies : List ReplyValue) (batches : List (List Edit)) (further : Option (List Edit))
      → is_none further ≡ live old.at.ahead
      → EachStandsFor (may_leave (disk old.at.ahead)) batches further
      → AreLines setup old later replies new → StayKept batches old.at new.at

  -- what was published where a line returned, no stop since takes back, from a recovered journal on
  abbrev pub LinesStayPublished : Type 0
  LinesStayPublished =
      (setup : SetupValue) (first old new : Charged (KeeperValue W))
      (earlier later : List ScriptLine) (before after : List ReplyValue)
      (batches : List (List Edit)) → BeginsWith batches first.at
      → AreLines setup first earlier before old → AreLines setup old later after new
      → StayPublished old.at new.at

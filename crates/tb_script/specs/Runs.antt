-- The replies to the lines of a script. Each lane is a party of one board, at the batches that the
-- custodian has published by then.
use Rattle.std.specs.Prelude.{◌≡◌, ◌<◌, ℕ, List, All, Option, length}
use Rattle.tb_front.specs.Holders.{Name}
use Rattle.tb_lines.specs.Lists.{AreAnswered, AreCutShort}
use Rattle.tb_lines.specs.Outputs.{AtPrice, Charged, Lead, ReplyValue, charged}
use Rattle.tb_model.specs.Releases.{ReleaseValue}
use Rattle.tb_model.specs.Setups.{SetupValue}
use Rattle.tb_release.specs.Batches.{BatchValue}
use Rattle.tb_release.specs.declared.edits.Edit.{Edit}
use Rattle.tb_script.specs.Scripts.{ScriptLine, ScriptValue, lanes_of, role_of_lane}
use Rattle.tb_script.specs.declared.asker.Asker.{Asker}
use Rattle.tb_script.specs.declared.run.RunEnd.{RunEnd}
use Rattle.tb_script.specs.declared.run.RunEnd.TheVariants as run_end
use Rattle.tb_ahead.specs.Publishing.{StateValue}
use Rattle.tb_session.specs.Parties.{IsAnalystOf}
use Rattle.tb_session.specs.Replies.{IsReply}
use Rattle.tb_session.specs.declared.party.Party.{Party}
use Rattle.tb_session.specs.declared.party.Role.{Role}
use Rattle.tb_session.specs.declared.party.Role.TheVariants as role

-- where one stands that has seen this chain and holds these edits
abbrev pub standing : List BatchValue → List Edit → StateValue
standing chain held = record { chain = chain; held = held }

-- a reply to a lane's line, over the release to which the custodian's batches have led from
-- release 0, and what comes after
abbrev pub IsLaneReply : SetupValue → ReleaseValue → StateValue → ScriptLine → ReplyValue
    → StateValue → Type 0
IsLaneReply setup base state one reply next =
    IsReply (role_of_lane one.lane) setup base state one.line reply next

-- what a run did with the lines of a script, from where the custodian stood and the counter, by how
-- it ended: it answered all, or some until a write failed; or it was out of memory before the first
abbrev pub IsRun : SetupValue → ReleaseValue → List ScriptLine → RunEnd → Charged StateValue → ℕ
    → Option (List ℕ) → Option (List ℕ) → Type 0
IsRun setup base lines run_end.Done first steps before after =
    (last : StateValue)
    × AreAnswered (Lead (AtPrice (IsLaneReply setup base))) lines first (charged last steps) before
    after
IsRun setup base lines run_end.WriteFault first steps before after =
    (last : StateValue)
    × AreCutShort (Lead (AtPrice (IsLaneReply setup base))) lines first (charged last steps) before
    after
IsRun setup base lines run_end.Memory first steps before after =
    (after ≡ before) × (steps ≡ first.steps)

-- who asks a line of a script: its lane, which is one of the script's
pub record Asks (script : ScriptValue) (line : ScriptLine) (who : Asker) : Type 0 where
  pub lane : who.lane < length (lanes_of script.lines)
  pub role : who.role ≡ role_of_lane line.lane

-- ---- lines that an owner answers, and analysts beside it

-- of an owner whose state tells on which release 0 its custodian wrote which chain
module _ {S : Type 0} (setup : SetupValue) (base : S → ReleaseValue) (chain : S → List BatchValue)
  where
    -- an analyst's line is answered over that chain, whatever edits are held, and changes nothing
    abbrev pub IsBeside : S → List ℕ → ReplyValue → S → Type 0
    IsBeside old line reply new =
        (new ≡ old)
        × ((held : List Edit) → IsReply role.Analyst setup (base old) (standing (chain old) held)
        line reply (standing (chain old) held))

    -- a line of a lane: the custodian's is answered by the owner's own step, where that is given
    abbrev pub IsOwnedStep : (S → List ℕ → ReplyValue → S → Type 0) → Role → S → List ℕ
        → ReplyValue → S → Type 0
    IsOwnedStep Own role.Custodian = Own
    IsOwnedStep Own role.Analyst = IsBeside

    -- the same, of a line of a script
    abbrev pub IsOwnedReply : (S → List ℕ → ReplyValue → S → Type 0) → S → ScriptLine
        → ReplyValue → S → Type 0
    IsOwnedReply Own old one = IsOwnedStep Own (role_of_lane one.lane) old one.line

-- what a run did with the lines of a script, where it is given which reply to a line leads from a
-- state to which, and at which state a list begins; by how it ended: it answered all, or some until
-- a write failed, or was out of memory before the first
abbrev pub IsOwnedRun : {S : Type 0} → (S → ScriptLine → ReplyValue → S → Type 0) → (S → S)
    → List ScriptLine → RunEnd → (first last : Charged S) → (before after : Option (List ℕ))
    → Type 0
IsOwnedRun Step fresh lines run_end.Done first last before after =
    AreAnswered (Lead (AtPrice Step)) lines (charged (fresh first.at) first.steps) last before after
IsOwnedRun Step fresh lines run_end.WriteFault first last before after =
    AreCutShort (Lead (AtPrice Step)) lines (charged (fresh first.at) first.steps) last before after
IsOwnedRun Step fresh lines run_end.Memory first last before after =
    (after ≡ before) × (last ≡ first)

-- so many analysts of the front of this name, over this shape
pub record AreAnalysts (name : Name) (shape : List ℕ) (lanes : ℕ) (analysts : List Party)
    : Type 0 where
  pub own : All (IsAnalystOf name shape) analysts
  pub many : length analysts ≡ lanes

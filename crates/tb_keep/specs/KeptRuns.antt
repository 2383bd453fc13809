-- The replies to the lines of a script whose custodian writes its batches ahead.
use Rattle.std.specs.Prelude.{◌≡◌, Bool, List, ℕ, Option}
use Rattle.tb_ahead.specs.Keepers.{IsAt, KeeperValue, Reaches}
use Rattle.tb_ahead.specs.Keeping.{KeptState}
use Rattle.tb_ahead.specs.Puts.{FileStands}
use Rattle.tb_keep.specs.Chains.{IsOwnKeptStep}
use Rattle.tb_lines.specs.Lists.{AreAnswered, AreCutShort}
use Rattle.tb_lines.specs.Outputs.{AtPrice, Charged, Lead, ReplyValue, charged}
use Rattle.tb_model.specs.Releases.{ReleaseValue}
use Rattle.tb_model.specs.Setups.{SetupValue}
use Rattle.tb_script.specs.Scripts.{ScriptLine, role_of_lane}
use Rattle.tb_script.specs.declared.run.RunEnd.{RunEnd}
use Rattle.tb_script.specs.declared.run.RunEnd.TheVariants as run_end
use Rattle.tb_session.specs.Replies.{IsReply}
use Rattle.tb_session.specs.declared.party.Role.{Role}
use Rattle.tb_session.specs.declared.party.Role.TheVariants as role

-- a line leads from where the custodian stands to where it stands then: its own; or an analyst's,
-- which is answered over the batches that were published by then, and changes nothing
abbrev pub IsKeptStepOf : Role → SetupValue → ReleaseValue → KeptState → List ℕ → ReplyValue
    → KeptState → Type 0
IsKeptStepOf role.Custodian = IsOwnKeptStep
IsKeptStepOf role.Analyst = λ setup base old line reply next.
    (next ≡ old) × IsReply role.Analyst setup base old.state line reply old.state

-- a reply to a lane's line
abbrev pub IsKeptReply : SetupValue → ReleaseValue → KeptState → ScriptLine → ReplyValue
    → KeptState → Type 0
IsKeptReply setup base old one = IsKeptStepOf (role_of_lane one.lane) setup base old one.line

-- what a run did with the lines of such a script, by how it ended: it answered all, or some until a
-- write failed, or was out of memory before the first
abbrev pub IsKeptRun : SetupValue → ReleaseValue → List ScriptLine → RunEnd
    → (first last : Charged KeptState) → (before after : Option (List ℕ)) → Type 0
IsKeptRun setup base lines run_end.Done first last before after =
    AreAnswered (Lead (AtPrice (IsKeptReply setup base))) lines first last before after
IsKeptRun setup base lines run_end.WriteFault first last before after =
    AreCutShort (Lead (AtPrice (IsKeptReply setup base))) lines first last before after
IsKeptRun setup base lines run_end.Memory first last before after =
    (after ≡ before) × (last ≡ first)

-- of what batches are written ahead into it is told whether that is live, the disk's count of
-- faults, and what the file stands for after a stop: a custodian stands here
abbrev pub StandsAt : {W : Type 0} → (live : W → Bool) → (faults : W → ℕ)
    → (standing : W → FileStands) → KeeperValue W → KeptState → Type 0
StandsAt live faults standing one at =
    IsAt (standing one.ahead) (live one.ahead) (faults one.ahead) one.state at

-- it is told besides what all calls keep of it: wherever a custodian stood that ran such a script,
-- the replies lead to where it stands then, over one release 0
abbrev pub RunsFrom : {W : Type 0} → (Continues : W → W → Type 0) → (live : W → Bool)
    → (faults : W → ℕ) → (standing : W → FileStands) → SetupValue → List ScriptLine → RunEnd
    → (old new : Charged (KeeperValue W)) → (before after : Option (List ℕ)) → Type 0
RunsFrom Continues live faults standing setup lines end old new before after =
    (new.at.base ≡ old.at.base)
    × Continues old.at.ahead new.at.ahead
    × Reaches (StandsAt live faults standing old.at) (StandsAt live faults standing new.at)
    (λ first last. IsKeptRun setup old.at.base lines end (charged first old.steps)
    (charged last new.steps) before after)

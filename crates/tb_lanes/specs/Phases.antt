-- What is written for a script whose lanes are answered at the same time, phase by phase. Nothing
-- here speaks of the program.
use Rattle.std.specs.Prelude.{◌≡◌, ◌==◌, ◌&&◌, ◌<◌, ◌≤◌, ◌++◌, ℕ, zero, suc, Bool, List, [], ◌∷◌}
use Rattle.std.specs.Prelude.{bytes_eq, codes, decimal, filter, length, map, slice_index_or, Option}
use mathlib.Core.List.{IsPrefix}
use Rattle.tb_io.specs.Taken.{Took, TookPart}
use Rattle.tb_model.specs.Releases.{ReleaseValue}
use Rattle.tb_model.specs.Setups.{SetupValue}
use Rattle.tb_release.specs.Batches.{BatchValue}
use Rattle.tb_script.specs.Scripts.{ScriptLine, ScriptValue, lanes_of, role_of_lane}
use Rattle.tb_script.specs.declared.run.RunEnd.{RunEnd}
use Rattle.tb_script.specs.declared.run.RunEnd.TheVariants as run_end
use Rattle.tb_lines.specs.Outputs.{ReplyValue, text_of}
use Rattle.tb_ahead.specs.Publishing.{StateValue, after_seeing}
use Rattle.tb_session.specs.Transcripts.{IsLegal}
use Rattle.tb_session.specs.declared.party.Role.{Role}
use Rattle.tb_session.specs.declared.party.Role.TheVariants as role

-- ---- the lines of a lane in a phase

-- the name of a script's lane, by its number, from 0 in the order of first appearance
abbrev pub lane_at : ScriptValue → ℕ → List ℕ
lane_at script n = slice_index_or (lanes_of script.lines) n []

-- whether a line stands in a phase and is a lane's
abbrev pub is_in : ℕ → List ℕ → ScriptLine → Bool
is_in phase lane one = (one.phase == phase) && bytes_eq one.lane lane

-- the lines of a lane in a phase, among some lines
abbrev pub lines_in : ℕ → List ℕ → List ScriptLine → List (List ℕ)
lines_in phase lane lines = map (λ one. one.line) (filter (is_in phase lane) lines)

-- those of the lane of a number
abbrev pub lines_at : ScriptValue → ℕ → ℕ → List (List ℕ)
lines_at script phase n = lines_in phase (lane_at script n) script.lines

-- ---- the text of a phase

-- the line of a phase
unfoldable pub phase_line : ℕ → List ℕ
phase_line phase = codes "phase " ++ decimal phase ++ 10 ∷ []

-- the line of a lane
unfoldable pub lane_line : List ℕ → List ℕ
lane_line lane = codes "lane " ++ lane ++ 10 ∷ []

-- what is written of a lane with these lines and this text of replies: nothing where it has no line
abbrev pub lane_text : List ℕ → List (List ℕ) → List ℕ → List ℕ
lane_text lane [] text = []
lane_text lane (line ∷ lines) text = lane_line lane ++ text

-- what is written of the first lanes, where the text of each lane's replies goes by its number
abbrev pub lanes_text : ScriptValue → ℕ → (ℕ → List ℕ) → ℕ → List ℕ
lanes_text script phase texts zero = []
lanes_text script phase texts (suc n) =
    lanes_text script phase texts n
    ++ lane_text (lane_at script n) (lines_at script phase n) (texts n)

-- what is written of a phase
abbrev pub phase_text : ScriptValue → ℕ → (ℕ → List ℕ) → List ℕ
phase_text script phase texts =
    phase_line phase ++ lanes_text script phase texts (length (lanes_of script.lines))

-- ---- the replies of a phase

-- where the parties stand between two phases: the custodian, and which batches the analyst of each
-- lane has seen, by the lane's number
pub record Standing : Type 0 where
  pub custodian : StateValue
  pub seen : ℕ → List BatchValue

-- an analyst's replies in a phase are legal from batches that begin with all that the custodian had
-- published when the phase began, and with all that the analyst had seen; and what it has then seen
-- is a beginning of what the custodian had published when the phase ended
pub record AnalystGoes (setup : SetupValue) (base : ReleaseValue) (lines : List (List ℕ))
    (replies : List ReplyValue) (first last before after : List BatchValue) : Type 0 where
  pub from : List BatchValue
  pub told : IsPrefix first from
  pub own : IsPrefix before from
  pub legal : IsLegal role.Analyst setup base (after_seeing from) lines replies
      (after_seeing after)
  pub within : IsPrefix after last

-- a lane's replies in a phase, by who answers its lines: the custodian's are legal from where it
-- stood at the phase's start, and lead to where it stands at the end
abbrev pub LaneGoes : Role → SetupValue → ReleaseValue → List (List ℕ) → List ReplyValue → Standing
    → Standing → ℕ → Type 0
LaneGoes role.Custodian setup base lines replies old new n =
    IsLegal role.Custodian setup base old.custodian lines replies new.custodian
LaneGoes role.Analyst setup base lines replies old new n =
    AnalystGoes setup base lines replies old.custodian.chain new.custodian.chain (old.seen n)
    (new.seen n)

-- these are replies to all lines of a phase, lane by lane; without a lane of its own the custodian
-- stays where it is
pub record PhaseGoes (setup : SetupValue) (base : ReleaseValue) (script : ScriptValue) (phase : ℕ)
    (replies : ℕ → List ReplyValue) (old new : Standing) : Type 0 where
  pub lanes : (n : ℕ) → n < length (lanes_of script.lines)
      → LaneGoes (role_of_lane (lane_at script n)) setup base (lines_at script phase n) (replies n)
      old new n
  pub none : ((n : ℕ) → n < length (lanes_of script.lines)
      → role_of_lane (lane_at script n) ≡ role.Analyst) → new.custodian ≡ old.custodian

-- how far a run has come: what was written, and where all stand
pub record Progress : Type 0 where
  pub text : List ℕ
  pub standing : Standing

-- one phase more was answered and written
pub record IsPhase (setup : SetupValue) (base : ReleaseValue) (script : ScriptValue) (phase : ℕ)
    (old new : Progress) : Type 0 where
  pub replies : ℕ → List ReplyValue
  pub goes : PhaseGoes setup base script phase replies old.standing new.standing
  pub added : new.text ≡ old.text ++ phase_text script phase (λ n. text_of (replies n))

-- the first phases of a script, one after another, lead from how far a run had come to how far it
-- has come then
abbrev pub PhasesGo : SetupValue → ReleaseValue → ScriptValue → ℕ → Progress → Progress → Type 0
PhasesGo setup base script zero first last = last ≡ first
PhasesGo setup base script (suc n) first last =
    (at : Progress)
    × PhasesGo setup base script n first at × IsPhase setup base script (suc n) at last

-- at first nothing was written, and no analyst has seen anything
abbrev pub begun_with : StateValue → Progress
begun_with custodian =
    record { text = []; standing = record { custodian = custodian; seen = λ _. [] } }

-- what a run wrote from there, by how it ended: the text of all phases, a part of it where a write
-- failed, or that of some first phases where it was out of memory
abbrev pub AreLanesRun : SetupValue → ReleaseValue → ScriptValue → RunEnd → StateValue
    → Option (List ℕ) → Option (List ℕ) → Type 0
AreLanesRun setup base script run_end.Done custodian before after =
    (last : Progress)
    × PhasesGo setup base script script.phases (begun_with custodian) last
    × Took before after last.text
AreLanesRun setup base script run_end.WriteFault custodian before after =
    (last : Progress)
    × PhasesGo setup base script script.phases (begun_with custodian) last
    × TookPart before after last.text
AreLanesRun setup base script run_end.Memory custodian before after =
    (n : ℕ) × (last : Progress) × (n ≤ script.phases)
    × PhasesGo setup base script n (begun_with custodian) last × Took before after last.text

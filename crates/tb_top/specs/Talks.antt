-- What callers were answered along one chain, by where their lines come from.
use Rattle.std.specs.Prelude.{◌≡◌, ◌≢◌, ◌⊎◌, ◌<◌, ◌++◌, ℕ, zero, suc, List, [], length}
use mathlib.Core.List.{IsPrefix}
use Rattle.tb_base.specs.declared.status.Status.{Status}
use Rattle.tb_base.specs.declared.status.Status.TheVariants as status
use Rattle.tb_command.specs.ServicePorts.{Service}
use Rattle.tb_command.specs.declared.command.Owner.{Owner}
use Rattle.tb_command.specs.declared.command.Owner.TheVariants as owner
use Rattle.tb_endings.specs.Endings.{last_line}
use Rattle.tb_endings.specs.declared.endings.End.TheVariants as end
use Rattle.tb_lanes.specs.Phases.{lane_at, lines_at, phase_text}
use Rattle.tb_lines.specs.Outputs.{Lead, ReplyValue, text_of}
use Rattle.tb_release.specs.Batches.{BatchValue}
use Rattle.tb_release.specs.Chains.{IsChain}
use Rattle.tb_script.specs.Scripts.{ScriptValue, lanes_of, role_of_lane}
use Rattle.tb_serve.specs.Each.{Each}
use Rattle.tb_serve.specs.Ports.{PortValue}
use Rattle.tb_serve.specs.Serves.{IsVisited, role_at}
use Rattle.tb_top.specs.Asking.{CensusValue, base_of}
use Rattle.tb_top.specs.Calls.{Call, HasTaken}
use Rattle.tb_top.specs.Counted.{IsAlong}
use Rattle.tb_top.specs.Promises.{IsSomeLastLine}
use Rattle.tb_top.specs.Services.{IsUnserved}

-- the sink took such a text, or the last line of a run that answered nothing; but where a write
-- failed only a beginning
abbrev pub HasPrinted : Call → Status → (List ℕ → Type 0) → Type 0
HasPrinted call s IsAnswer =
    (printed rest : List ℕ) × HasTaken call printed × ((rest ≡ []) ⊎ (s ≡ status.WriteFault))
    × (((s ≢ status.Done) × (final : Status) × IsSomeLastLine final (printed ++ rest))
    ⊎ IsAnswer (printed ++ rest))

-- a text is that of such replies to the lines of a script, one after another
abbrev pub IsScriptAlong : CensusValue → ScriptValue → List ℕ → Type 0
IsScriptAlong census script text =
    (first chain : List BatchValue) × (replies : List ReplyValue) × IsChain (base_of census) chain
    × Lead (λ seen one. IsAlong census.setup (base_of census) chain (role_of_lane one.lane) seen
    one.line) first script.lines replies chain × (text ≡ text_of replies)

-- the lines of a lane in a phase were answered along a chain, from no fewer batches than the lane
-- had seen
abbrev pub IsLaneAlong : CensusValue → ScriptValue → (chain : List BatchValue) → (phase n : ℕ)
    → (before : List BatchValue) → List ReplyValue → (after : List BatchValue) → Type 0
IsLaneAlong census script chain phase n before replies after =
    (from : List BatchValue) × IsPrefix before from
    × Lead (IsAlong census.setup (base_of census) chain (role_of_lane (lane_at script n))) from
    (lines_at script phase n) replies after

-- a text is that of such replies in the first phases, in which each lane has seen so much
abbrev pub PhasesAlong : CensusValue → ScriptValue → (chain : List BatchValue) → ℕ
    → (seen : ℕ → List BatchValue) → List ℕ → Type 0
PhasesAlong census script chain zero seen text = ((n : ℕ) → seen n ≡ []) × (text ≡ [])
PhasesAlong census script chain (suc phase) seen text =
    (before : ℕ → List BatchValue) × (first : List ℕ) × (replies : ℕ → List ReplyValue)
    × PhasesAlong census script chain phase before first
    × ((n : ℕ) → n < length (lanes_of script.lines)
    → IsLaneAlong census script chain (suc phase) n (before n) (replies n) (seen n))
    × (text ≡ first ++ phase_text script (suc phase) (λ n. text_of (replies n)))

-- a text is that of some first phases along one chain; of all of them, or the line that tells that
-- memory ran out stands after it
abbrev pub ArePhasesAlong : CensusValue → ScriptValue → List ℕ → Type 0
ArePhasesAlong census script text =
    (chain : List BatchValue) × (phases : ℕ) × (seen : ℕ → List BatchValue) × (first : List ℕ)
    × IsChain (base_of census) chain × PhasesAlong census script chain phases seen first
    × ((phases ≡ script.phases) × (text ≡ first) ⊎ (text ≡ first ++ last_line end.Memory))

-- the sessions of port i were answered along a chain, one after another: each begins at what the
-- port had seen
abbrev pub IsPortAlong : CensusValue → (most : ℕ) → (chain : List BatchValue) → ℕ
    → (before after : PortValue) → Type 0
IsPortAlong census most chain i before after =
    (first last : List BatchValue)
    × IsVisited (Lead (IsAlong census.setup (base_of census) chain (role_at i))) (λ seen. seen) most
    first last before after

-- Those of all ports were, along one chain, but at a leader's port, the first; or no session came
-- or went. Where a leader owns the chain it is what was applied of its messages: a beginning of the
-- leader's, where none is forged.
abbrev pub ArePortsAlong : Owner → CensusValue → Service → (before after : List PortValue) → Type 0
ArePortsAlong who census service before after =
    ((chain : List BatchValue) × (who ≢ owner.Leader → IsChain (base_of census) chain)
    × Each (λ i port port'. (who ≢ owner.Leader) ⊎ (i ≢ 0)
    → IsPortAlong census service.sessions chain i port port') before after)
    ⊎ Each (λ _. IsUnserved) before after

-- What is written for a script whose lanes are answered at the same time.
use Rattle.std.specs.Prelude.{◌≡◌, ◌⊎◌, ◌≤◌, ℕ, List, [], ◌++◌, Option}
use Rattle.tb_base.specs.declared.status.Status.{Status}
use Rattle.tb_base.specs.declared.status.Status.TheVariants as status
use Rattle.tb_ahead.specs.Publishing.{after_seeing}
use Rattle.tb_lanes.specs.Phases.{PhasesGo, Progress, begun_with}
use Rattle.tb_script.specs.Scripts.{ScriptValue}
use Rattle.tb_serve.specs.Serves.{IsEnded, output}
use Rattle.tb_top.specs.Asking.{CensusValue, base_of}
use Rattle.tb_endings.specs.Endings.{last_line}
use Rattle.tb_endings.specs.declared.endings.End.TheVariants as end

-- a text is that of the first so many phases, from release 0 of the microdata on
abbrev pub IsTextOfPhases : CensusValue → ScriptValue → ℕ → List ℕ → Type 0
IsTextOfPhases census script n text =
    (last : Progress)
    × PhasesGo census.setup (base_of census) script n (begun_with (after_seeing [])) last
    × (text ≡ last.text)

-- a text is that of some first phases, and then the line that tells that memory ran out
abbrev pub IsTextToMemory : CensusValue → ScriptValue → List ℕ → Type 0
IsTextToMemory census script text =
    (n : ℕ) × (before : List ℕ) × (n ≤ script.phases) × IsTextOfPhases census script n before
    × (text ≡ before ++ last_line end.Memory)

-- a text is that of all phases, which were answered, or memory ran out after some
abbrev pub IsLanesText : CensusValue → ScriptValue → Status → List ℕ → Type 0
IsLanesText census script s text =
    ((s ≡ status.Done) × IsTextOfPhases census script script.phases text)
    ⊎ ((s ≡ status.Memory) × IsTextToMemory census script text)

-- the lanes of a script were answered: such a text was taken, or, where a write failed, a beginning
-- of it
abbrev pub AreLanesAnswered : CensusValue → ScriptValue → Status → (faults faults' : ℕ)
    → (taken taken' : Option (List ℕ)) → Type 0
AreLanesAnswered census script s faults faults' taken taken' =
    (final : Status) × (text : List ℕ) × IsLanesText census script final text
    × IsEnded text final (output taken taken' faults faults') s

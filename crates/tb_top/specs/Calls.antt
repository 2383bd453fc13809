-- What a call of the top call saw.
use Rattle.std.specs.Prelude.{◌≡◌, ℕ, suc, zero, List, ◌∷◌, ◌++◌, Option, length, map, option_map}
use Rattle.tb_io.specs.Faults.{HasRisen, one_more}
use Rattle.tb_io.specs.Taken.{Took}
use Rattle.tb_keep.specs.JournalRuns.{JournalRun}
use Rattle.tb_serve.specs.Ports.{PortValue}
use Rattle.tb_serve.specs.Serves.{Output, output}
use Rattle.tb_serve.specs.Stages.{HasRisenSome}
use Rattle.tb_endings.specs.declared.endings.Input.{Input}
use Rattle.tb_top.specs.InputFiles.{NamedFile}
use Rattle.tb_top.specs.KeepOutputs.{DiskSeen, kept_seen}

-- The arguments; what stands under each name, where the files tell it; the counts of faults of the
-- files and of the sink, before and after; how many readings there were, where the files tell it;
-- the ports, of which each listener has a count of faults of its own; the bytes that the sink took,
-- where it tells them; the disk; and the counter of steps.
pub record Call : Type 1 where
  pub words : List (List ℕ)
  pub content : Option (List ℕ → Option (List ℕ))
  pub read_faults : ℕ
  pub read_faults_after : ℕ
  pub readings : Option ℕ
  pub readings_after : Option ℕ
  pub write_faults : ℕ
  pub write_faults_after : ℕ
  pub ports : List PortValue
  pub ports_after : List PortValue
  pub taken : Option (List ℕ)
  pub taken_after : Option (List ℕ)
  pub disk : DiskSeen
  pub steps : ℕ
  pub steps_after : ℕ

-- what it saw of its sink
abbrev pub output_of : Call → Output
output_of call = output call.taken call.taken_after call.write_faults call.write_faults_after

-- and of a run with a journal under this name
abbrev pub journal_seen : Call → (journal : List ℕ) → JournalRun
journal_seen call journal =
    kept_seen call.disk journal call.steps call.steps_after (output_of call)

-- a read failed, a write failed, and some listener failed
abbrev pub ReadFailed : Call → Type 0
ReadFailed call = HasRisen call.read_faults call.read_faults_after

abbrev pub WriteFailed : Call → Type 0
WriteFailed call = HasRisen call.write_faults call.write_faults_after

abbrev pub NetFailed : Call → Type 0
NetFailed call = HasRisenSome call.ports call.ports_after

-- the sink took exactly these bytes
abbrev pub HasTaken : Call → List ℕ → Type 0
HasTaken call bytes = Took call.taken call.taken_after bytes

-- a count of readings after so many more
abbrev pub readings_more : ℕ → Option ℕ → Option ℕ
readings_more zero count = count
readings_more (suc n) count = option_map one_more (readings_more n count)

-- of these files, in order, each up to that of an input was read, and none after it: the numbers of
-- readings before and after tell so
abbrev pub IsReadTo : List NamedFile → Input → Option ℕ → Option ℕ → Type 0
IsReadTo files file readings readings' =
    (before rest : List Input) × (map (λ f. f.input) files ≡ before ++ (file ∷ rest))
    × (readings' ≡ readings_more (suc (length before)) readings)

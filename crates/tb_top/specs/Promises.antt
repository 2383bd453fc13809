-- What each status of the top call tells.
use Rattle.std.specs.Prelude.{◌≡◌, ◌⊎◌, ◌+◌, ◌≤◌, ℕ, List, ◌++◌, All, false, true, Option, None, Some, Result, Ok, Err, IfSome}
use Rattle.tb_base.specs.declared.status.Status.{Status}
use Rattle.tb_base.specs.declared.status.Status.TheVariants as status
use Rattle.tb_io.specs.Taken.{Took}
use Rattle.tb_lines.specs.Outputs.{ReplyValue, price_of}
use Rattle.tb_endings.specs.declared.endings.Input.{Input}
use Rattle.tb_endings.specs.declared.endings.End.{End}
use Rattle.tb_endings.specs.declared.endings.End.TheVariants as end
use Rattle.tb_top.specs.Asking.{AskedValue, CensusValue, asked_by, asked_of, asked_with, contents_at, contents_for}
use Rattle.tb_top.specs.declared.asked.AskedLines.{AskedLines}
use Rattle.tb_top.specs.declared.asked.AskedLines.TheVariants as lines
use Rattle.tb_command.specs.declared.command.Owner.TheVariants as owner
use Rattle.tb_top.specs.Calls.{Call, HasTaken, IsReadTo, NetFailed, ReadFailed, WriteFailed}
use Rattle.tb_top.specs.Calls.{journal_seen, output_of}
use Rattle.tb_command.specs.Commands.{asks_to_generate, asks_to_keep, asks_to_serve, command_of}
use Rattle.tb_top.specs.InputFiles.{asks_for_dwellings, command_files}
use Rattle.tb_command.specs.declared.command.Command.{Command}
use Rattle.tb_endings.specs.Endings.{last_line, status_of}
use Rattle.tb_top.specs.HostOutputs.{IsHostAnswered, IsHostOutput}
use Rattle.tb_top.specs.KeepOutputs.{AreKeepLinesAnswered, DiskSeen, HasFailed, IsKeepLine}
use Rattle.tb_top.specs.KeepOutputs.{IsStill, disk_line, journal_line}
use Rattle.tb_top.specs.Outputs.{AreAnswers, IsBegun, IsOutput, IsOutputToMemory}
use Rattle.tb_command.specs.ServicePorts.{Service}
use Rattle.tb_top.specs.Services.{IsIdle, IsUnserved}
use Rattle.tb_keep.specs.JournalRuns.{seen_of}
use Rattle.tb_keep.specs.Seen.{StandsAsBefore}
use Rattle.tb_keep.specs.declared.recovery.JournalFault.{JournalFault}
use Rattle.tb_script.specs.Scripts.{ScriptValue}
use Rattle.tb_serve.specs.Each.{Each}
use Rattle.tb_serve.specs.Ports.{PortValue}
use Rattle.tb_serve.specs.Serves.{IsEnded, Output}

-- an end at a file that couldn't be read: a read failed, and it was the last, at that file
abbrev pub IsReadingAt : Call → Input → Type 0
IsReadingAt call file =
    ReadFailed call
    × ((command : Command) → command_of call.words ≡ Some command
    → IsReadTo (command_files command) file call.readings call.readings_after)

abbrev pub IsCaused : Call → End → Type 0
IsCaused call (end.Unread file) = IsReadingAt call file
IsCaused call end.Usage = Unit {0}
IsCaused call (end.TooLong file) = Unit {0}
IsCaused call (end.Refused file name at) = Unit {0}
IsCaused call (end.BadLine at) = Unit {0}
IsCaused call end.Memory = Unit {0}

-- the run ends so before its task: by the arguments, by what the files hold, or at a file that
-- couldn't be read, where each earlier file is there, not too long and accepted; no port changed
abbrev pub EndsBy : Call → (List ℕ → Option (List ℕ)) → End → Type 0
EndsBy call at e =
    (asked_by (λ command. contents_for e (contents_at at (command_files command))) call.words
    ≡ Err e)
    × IsCaused call e × (call.ports_after ≡ call.ports)

-- a text is the last line of a run that ends so with this status, and nothing else
abbrev pub IsLastLine : Call → (List ℕ → Option (List ℕ)) → Status → List ℕ → Type 0
IsLastLine call at s text = (e : End) × EndsBy call at e × (status_of e ≡ s) × (text ≡ last_line e)

-- a text is an output of what is asked for, with this status
abbrev pub IsAskedOutput : Call → (List ℕ → Option (List ℕ)) → Status → List ℕ → Type 0
IsAskedOutput call at s text =
    (asked : AskedValue) × (asked_of at call.words ≡ Ok asked)
    × IsOutput asked call.ports call.ports_after s text

-- a text is what a run that is out of memory writes: its last line, after what was written before
abbrev pub IsMemoryText : Call → (List ℕ → Option (List ℕ)) → List ℕ → Type 0
IsMemoryText call at text =
    (text ≡ last_line end.Memory)
    ⊎ ((asked : AskedValue) × (asked_of at call.words ≡ Ok asked) × IsOutputToMemory asked text)

-- lines are to be answered over this census, with a journal of this name
abbrev pub AsksWithJournal : Call → (List ℕ → Option (List ℕ)) → CensusValue → (journal : List ℕ)
    → Type 0
AsksWithJournal call at census journal =
    (lines : AskedLines)
    × (asked_of at call.words ≡ Ok (asked_with census (owner.Journal journal) lines))

-- a text is the last line, with this status, of a run whose journal was refused or couldn't be read
abbrev pub IsJournalText : Call → (List ℕ → Option (List ℕ)) → Status → List ℕ → Type 0
IsJournalText call at s text =
    (census : CensusValue) × (journal : List ℕ) × AsksWithJournal call at census journal
    × IsKeepLine census (journal_seen call journal) s text

-- a text is what a run with this status writes where no write fails: with Done and NetFault an
-- output, with another status its last line; with DiskFault either; with Memory no session came or
-- went, and only the texts of phases that had ended stand before the last line
abbrev pub IsWhole : Call → (List ℕ → Option (List ℕ)) → Status → List ℕ → Type 0
IsWhole call at status.Done text = IsAskedOutput call at status.Done text
IsWhole call at status.Usage text = IsLastLine call at status.Usage text
IsWhole call at status.Schema text = IsLastLine call at status.Schema text
IsWhole call at status.Perturbation text = IsLastLine call at status.Perturbation text
IsWhole call at status.Microdata text = IsLastLine call at status.Microdata text
IsWhole call at status.Script text = IsLastLine call at status.Script text
IsWhole call at status.ReadFault text = IsLastLine call at status.ReadFault text
IsWhole call at status.WriteFault text = ⊥
IsWhole call at status.Memory text =
    IsMemoryText call at text × Each (λ _. IsUnserved) call.ports call.ports_after
IsWhole call at status.NetFault text = IsAskedOutput call at status.NetFault text
IsWhole call at status.Journal text = IsJournalText call at status.Journal text
IsWhole call at status.DiskFault text =
    IsJournalText call at status.DiskFault text ⊎ IsAskedOutput call at status.DiskFault text
IsWhole call at status.Units text = IsLastLine call at status.Units text

-- the same, or, where a write failed, a beginning of such a text
abbrev pub IsTextOf : Call → (List ℕ → Option (List ℕ)) → Status → List ℕ → Type 0
IsTextOf call at s text =
    IsWhole call at s text
    ⊎ ((s ≡ status.WriteFault)
    × ((cause : Status) × (rest : List ℕ) × IsWhole call at cause (text ++ rest)))

-- the sink took the text of that status, and nothing else
abbrev pub Tells : Call → (List ℕ → Option (List ℕ)) → Status → Type 0
Tells call at s = (bytes : List ℕ) × IsTextOf call at s bytes × HasTaken call bytes

-- the status where no read or write fails, memory suffices, and no journal is refused
abbrev pub defined_status : Result AskedValue End → Status
defined_status (Ok asked) = status.Done
defined_status (Err e) = status_of e

-- no other status comes but Memory, where a count of faults rose, or that of a journal
abbrev pub IsDefined : Call → (List ℕ → Option (List ℕ)) → Status → Type 0
IsDefined call at s =
    (s ≡ defined_status (asked_of at call.words))
    ⊎ ((s ≡ status.Memory)
    ⊎ (((s ≡ status.ReadFault) × ReadFailed call)
    ⊎ (((s ≡ status.WriteFault) × WriteFailed call)
    ⊎ (((s ≡ status.NetFault) × NetFailed call)
    ⊎ (((text : List ℕ) × IsJournalText call at s text)
    ⊎ ((s ≡ status.DiskFault)
    × ((text : List ℕ) × IsAskedOutput call at status.DiskFault text)))))))

-- the counter rose by no more than the price of some replies to a script, of which a beginning of
-- what is written with this status was taken
abbrev pub IsPriced : Call → (List ℕ → Option (List ℕ)) → Status → Type 0
IsPriced call at s =
    (asked : AskedValue) × (asked_of at call.words ≡ Ok asked)
    × ((replies : List ReplyValue) × AreAnswers asked replies
    × IsBegun asked s replies call.taken call.taken_after
    × (call.steps_after ≤ call.steps + price_of replies))

-- a text is some last line, with its status
abbrev pub IsSomeLastLine : Status → List ℕ → Type 0
IsSomeLastLine s text =
    ((e : End) × (s ≡ status_of e) × (text ≡ last_line e))
    ⊎ (((fault : JournalFault) × (s ≡ status.Journal) × (text ≡ journal_line fault))
    ⊎ ((s ≡ status.DiskFault) × (text ≡ disk_line)))

-- Where a script with a journal was asked for: its lines were answered, and what a stop now may
-- leave stands for the batches of these replies; or no line was, and a last line was written: then
-- the disk was left alone, or each file that a stop in the call left stands as one that a stop
-- before it could leave.
abbrev pub IsJournalKept : Call → (List ℕ → Option (List ℕ)) → Status → Type 0
IsJournalKept call at s =
    (census : CensusValue) → (journal : List ℕ) → (script : ScriptValue)
    → asked_of at call.words
    ≡ Ok (asked_with census (owner.Journal journal) (lines.Script script))
    → AreKeepLinesAnswered census script s (output_of call) (journal_seen call journal)
    ⊎ ((call.steps_after ≡ call.steps)
    × (IsStill call.disk ⊎ StandsAsBefore (seen_of (journal_seen call journal)))
    × ((final : Status) × (text : List ℕ) × IsSomeLastLine final text
    × IsEnded text final (output_of call) s))

-- Where sessions with a journal were asked for: they were served, and what a stop now may leave
-- stands for the batches to which they led; or the run ended before that, with a last line.
abbrev pub IsHostKept : Call → (List ℕ → Option (List ℕ)) → Status → Type 0
IsHostKept call at s =
    (census : CensusValue) → (journal : List ℕ) → (service : Service)
    → asked_of at call.words
    ≡ Ok (asked_with census (owner.Journal journal) (lines.Ports service))
    → IsHostAnswered census service journal call.ports call.ports_after s (output_of call) call.disk
    ⊎ ((call.ports_after ≡ call.ports) × IsStill call.disk
    × ((final : Status) × (text : List ℕ) × IsSomeLastLine final text
    × IsEnded text final (output_of call) s))

-- a status that the arguments, a file or a reading decides
abbrev pub IsByInput : Status → Type 0
IsByInput status.Usage = Unit {0}
IsByInput status.Schema = Unit {0}
IsByInput status.Perturbation = Unit {0}
IsByInput status.Microdata = Unit {0}
IsByInput status.Units = Unit {0}
IsByInput status.Script = Unit {0}
IsByInput status.ReadFault = Unit {0}
IsByInput status.Done = ⊥
IsByInput status.WriteFault = ⊥
IsByInput status.Memory = ⊥
IsByInput status.NetFault = ⊥
IsByInput status.Journal = ⊥
IsByInput status.DiskFault = ⊥

-- a text is the report of some sessions with a journal, over some census, that led their custodian
-- to where its journal isn't live any more
abbrev pub IsUnkeptReport : (ports ports' : List PortValue) → List ℕ → Type 0
IsUnkeptReport ports ports' text =
    (census : CensusValue) × (service : Service)
    × IsHostOutput census service ports ports' status.DiskFault text

-- Why a run ends with DiskFault: a journal was asked for, and the disk's count rose; or sessions
-- with one were, and it wasn't live at their end, as was reported. That holds whatever the files
-- tell.
abbrev pub HasDiskCause : Option Command → DiskSeen → (ports ports' : List PortValue) → Output
    → Type 0
HasDiskCause asked disk ports ports' out =
    (asks_to_keep asked ≡ true)
    × (HasFailed disk
    ⊎ ((asks_to_serve asked ≡ true)
    × ((text : List ℕ) × IsUnkeptReport ports ports' text × Took out.before out.after text)))

-- what a call keeps, whatever its status
pub record Keeps (call : Call) (s : Status) : Type 0 where
  -- What the sink took is the text of that status.
  pub text : IfSome call.content (λ at. Tells call at s)
  -- The arguments alone decide Usage, and its line tells it whatever the files are.
  pub usage : s ≡ status.Usage
      → (command_of call.words ≡ None) × HasTaken call (last_line end.Usage)
  pub words : command_of call.words ≡ None → (s ≡ status.Usage) ⊎ (s ≡ status.WriteFault)
  -- A fault of the outside comes only where its count rose; but where sessions are served with a
  -- journal, DiskFault also comes where that isn't live at the end.
  pub read_fault : s ≡ status.ReadFault → ReadFailed call
  pub write_fault : s ≡ status.WriteFault → WriteFailed call
  pub net_fault : s ≡ status.NetFault → NetFailed call
  pub disk_fault : s ≡ status.DiskFault
      → HasDiskCause (command_of call.words) call.disk call.ports call.ports_after (output_of call)
  -- A journal is refused only where one is asked for, and so are dwellings.
  pub journal : s ≡ status.Journal → asks_to_keep (command_of call.words) ≡ true
  pub units : s ≡ status.Units → asks_for_dwellings (command_of call.words) ≡ true
  -- No status comes but the defined one, Memory, a fault whose count rose, or that of a journal.
  pub exact : IfSome call.content (λ at. IsDefined call at s)
  -- The counter rises by no more than the replies' price, and not at all where no line is answered,
  -- as with Memory.
  pub price : IfSome call.content (λ at.
      (call.steps_after ≡ call.steps) ⊎ IsPriced call at s)
  -- The generated files are in their grammars: a run over them ends by none of them.
  pub generated : asks_to_generate (command_of call.words) ≡ true
      → (s ≡ status.Done) ⊎ ((s ≡ status.WriteFault) ⊎ (s ≡ status.Memory))
  -- At the return no one is served at a port, and where no sessions are asked for none changed.
  pub idle : All IsIdle call.ports_after
  pub others : asks_to_serve (command_of call.words) ≡ false → call.ports_after ≡ call.ports
  -- A script with a journal was answered, and sessions with one were served, so that the batches
  -- are kept; and where none is asked for the disk was left alone.
  pub kept : IfSome call.content (λ at. IsJournalKept call at s)
  pub hosted : IfSome call.content (λ at. IsHostKept call at s)
  pub still : asks_to_keep (command_of call.words) ≡ false → IsStill call.disk
  -- And so it was where the arguments, a file or a reading ended the call, whatever was asked for;
  -- where what the files hold decides the end, also if its last line couldn't be written.
  pub alone : IsByInput s → IsStill call.disk
  pub unbegun : IfSome call.content (λ at.
      (e : End) → asked_of at call.words ≡ Err e → IsStill call.disk)

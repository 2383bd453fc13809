-- What a run over files and a sink in memory tells.
use Rattle.std.specs.Prelude.{◌≡◌, ℕ, List, ◌++◌, Some}
use Rattle.tb_base.specs.declared.status.Status.{Status}
use Rattle.tb_io.specs.BoundedSink.{BoundedSink}
use Rattle.tb_io.specs.HeldFiles.{FailingFiles, bytes_of}
use Rattle.tb_serve.specs.Ports.{PortValue}
use Rattle.tb_serve.specs.Serves.{output}
use Rattle.tb_endings.specs.declared.endings.Input.{Input}
use Rattle.tb_endings.specs.declared.endings.End.TheVariants as end
use Rattle.tb_command.specs.declared.command.Command.{Command}
use Rattle.tb_top.specs.Calls.{Call, IsReadTo}
use Rattle.tb_command.specs.Commands.{command_of}
use Rattle.tb_top.specs.InputFiles.{command_files}
use Rattle.tb_endings.specs.Endings.{last_line}
use Rattle.tb_top.specs.KeepOutputs.{DiskSeen}
use Rattle.tb_top.specs.Promises.{IsTextOf}
use Rattle.tb_top.specs.Seen.{call_over}

-- what such a call saw
abbrev pub memory_call : List (List ℕ) → FailingFiles → FailingFiles → BoundedSink → BoundedSink
    → List PortValue → List PortValue → DiskSeen → ℕ → ℕ → Call
memory_call words files files' out out' ports ports' disk steps steps' =
    call_over words
    (record {
      content = Some (bytes_of files.held);
      content_after = Some (bytes_of files'.held);
      faults = files.faults;
      faults_after = files'.faults;
      readings = Some files.calls;
      readings_after = Some files'.calls;
    })
    (output (Some out.taken) (Some out'.taken) out.faults out'.faults) ports ports' disk steps
    steps'

-- the bytes that a run with this status added to those of the sink
abbrev pub Adds : Call → FailingFiles → BoundedSink → BoundedSink → Status → Type 0
Adds call files out out' s =
    (bytes : List ℕ)
    × (out'.taken ≡ out.taken ++ bytes) × IsTextOf call (bytes_of files.held) s bytes

-- a read fault's line names the file of the reading that failed, which was the run's last
abbrev pub NamesTheFailingRead : List (List ℕ) → FailingFiles → FailingFiles → BoundedSink
    → BoundedSink → Type 0
NamesTheFailingRead words files files' out out' =
    (file : Input) × (out'.taken ≡ out.taken ++ last_line (end.Unread file))
    × ((command : Command) → command_of words ≡ Some command
    → IsReadTo (command_files command) file (Some files.calls) (Some files'.calls))

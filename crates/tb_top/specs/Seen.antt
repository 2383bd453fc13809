-- A call, by what it saw.
use Rattle.std.specs.Prelude.{ℕ, List}
use Rattle.tb_serve.specs.Ports.{PortValue}
use Rattle.tb_serve.specs.Serves.{Output}
use Rattle.tb_top.specs.Calls.{Call}
use Rattle.tb_top.specs.KeepOutputs.{DiskSeen}
use Rattle.tb_top.specs.Loading.{Reading}

-- a call with these arguments: what it saw of its files and its sink, its ports before and after,
-- its disk, and the counter of steps
abbrev pub call_over : (words : List (List ℕ)) → Reading → Output → (ports ports' : List PortValue)
    → DiskSeen → (steps steps' : ℕ) → Call
call_over words files out ports ports' disk steps steps' = record {
  words = words;
  content = files.content;
  read_faults = files.faults;
  read_faults_after = files.faults_after;
  readings = files.readings;
  readings_after = files.readings_after;
  write_faults = out.faults;
  write_faults_after = out.faults_after;
  ports = ports;
  ports_after = ports';
  taken = out.before;
  taken_after = out.after;
  disk = disk;
  steps = steps;
  steps_after = steps';
}

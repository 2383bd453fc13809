use Rattle.std.proofs.Common.{◌≡◌, ◌≤◌, ◌*◌}
use Rattle.std.specs.Prelude.{take}
use Rattle.tb_serve.specs.Reports.{served_at}
use Rattle.tb_serve.proofs.report.served_together.Given as goal

-- what was served at the ports so far
abbrev pub invariant-loop-port : goal.invariant-loop-port
invariant-loop-port g l = record {
  so_far : l.together ≡ served_at (take l.port-index l.ports);
  few : l.together ≤ l.port-index * 4294967295;
}

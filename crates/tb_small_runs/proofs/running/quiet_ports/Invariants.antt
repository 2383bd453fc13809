use Rattle.std.proofs.Common.{◌≡◌, All, vec_len}
use Rattle.tb_serve.specs.Stages.{IsFresh}
use Rattle.tb_small_runs.proofs.running.quiet_ports.Given as goal

-- as many ports as turns of the loop, all fresh
abbrev pub invariant-loop : goal.invariant-loop
invariant-loop l = record {
  count : vec_len l.net ≡ l.counter;
  fresh : All IsFresh l.net.items;
}

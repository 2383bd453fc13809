use Rattle.std.proofs.Common.{◌≡◌, All, vec_len}
use Rattle.tb_serve.specs.Stages.{IsFresh}
use Rattle.tablebuilder.proofs.ports.real_ports.Given as goal

-- as many ports as turns of the loop, all fresh
abbrev pub invariant-loop-i : goal.invariant-loop-i
invariant-loop-i g l = record {
  count : vec_len l.net ≡ l.i;
  fresh : All IsFresh l.net.items;
}

use Rattle.std.proofs.Common.{◌≡◌, All, vec_len}
use Rattle.tb_serve.specs.Stages.{IsFresh}
use Rattle.tb_serve_tests.proofs.waiting.ports.Given as goal

-- as many ports as the loop says, all fresh
abbrev pub invariant-loop-number : goal.invariant-loop-number
invariant-loop-number l = record {
  count : vec_len l.net ≡ l.number;
  fresh : All IsFresh l.net.items;
}

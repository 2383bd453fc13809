use Rattle.std.proofs.Common.{◌≡◌, ◌++◌, ◌*◌}
use Rattle.tb_gen.specs.Draws.{after, seed}
use Rattle.tb_gen.specs.Lines.{each_below}
use Rattle.tb_gen.specs.Generated.{round_lines}
use Rattle.tb_gen.proofs.Steps.{rest_of}
use Rattle.tb_gen.proofs.script.script_file.Given as goal

abbrev pub invariant-loop-round : goal.invariant-loop-round
invariant-loop-round l = record {
  draws : l.draws ≡ after (100 * l._round) (seed l.start 2);
  file : l.file.items ++ rest_of 10 (λ i. round_lines l.n (after (100 * i) (seed l.start 2))) l._round
      ≡ each_below 10 (λ i. round_lines l.n (after (100 * i) (seed l.start 2)));
}

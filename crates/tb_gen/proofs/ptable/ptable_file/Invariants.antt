use Rattle.std.proofs.Common.{◌≡◌, ◌++◌, ◌+◌, ◌*◌}
use Rattle.tb_gen.specs.declared.classes.TheConstants.{KEY_RANGE}
use Rattle.tb_base.specs.declared.limits.TheConstants.{LAST_ROW}
use Rattle.tb_gen.specs.Draws.{after, seed}
use Rattle.tb_gen.specs.Generated.{row_lines, generated_ptable}
use Rattle.tb_gen.proofs.Steps.{rest_of}
use Rattle.tb_gen.proofs.ptable.ptable_file.Given as goal

abbrev pub invariant-loop-i : goal.invariant-loop-i
invariant-loop-i l = record {
  draws : l.draws ≡ after (KEY_RANGE * l.i) (seed l.start 1);
  file : l.file.items ++ rest_of LAST_ROW (λ i. row_lines (i + 1) (after (KEY_RANGE * i) (seed l.start 1))) l.i ≡ generated_ptable l.start;
}

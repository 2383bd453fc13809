use Rattle.std.proofs.Common.{◌≡◌, ◌++◌}
use Rattle.tb_gen.specs.declared.classes.TheConstants.{KEY_RANGE}
use Rattle.tb_gen.specs.Draws.{after}
use Rattle.tb_gen.specs.Generated.{pvalue_line, row_lines}
use Rattle.tb_gen.proofs.Steps.{rest_of}
use Rattle.tb_gen.proofs.ptable.add_row.Given as goal

abbrev pub invariant-loop-ckey : goal.invariant-loop-ckey
invariant-loop-ckey l = record {
  draws : l.draws ≡ after l.ckey l.fn.draws;
  file : l.file.items ++ rest_of KEY_RANGE (λ ckey. pvalue_line l.pcv ckey (after ckey l.fn.draws)) l.ckey
      ≡ l.fn.file.items ++ row_lines l.pcv l.fn.draws;
}

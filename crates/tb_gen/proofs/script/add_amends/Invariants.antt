use Rattle.std.proofs.Common.{◌≡◌, ◌++◌, ◌*◌}
use Rattle.tb_gen.specs.Draws.{after}
use Rattle.tb_gen.specs.Generated.{amend_line, amend_lines}
use Rattle.tb_gen.proofs.Steps.{rest_of}
use Rattle.tb_gen.proofs.script.add_amends.Given as goal

abbrev pub invariant-loop-amend : goal.invariant-loop-amend
invariant-loop-amend l = record {
  draws : l.draws ≡ after (2 * l._amend) l.fn.draws;
  file : l.file.items ++ rest_of 50 (λ i. amend_line l.n (after (2 * i) l.fn.draws)) l._amend
      ≡ l.fn.file.items ++ amend_lines l.n l.fn.draws;
}

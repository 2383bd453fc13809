use Rattle.std.proofs.Common.{◌≡◌, ◌++◌, ◌+◌, ◌*◌}
use Rattle.tb_gen.specs.Draws.{after}
use Rattle.tb_gen.specs.Generated.{person_line, generated_people}
use Rattle.tb_gen.proofs.Steps.{rest_of}
use Rattle.tb_gen.proofs.people.people_file.Given as goal

abbrev pub invariant-loop-i : goal.invariant-loop-i
invariant-loop-i l = record {
  draws : l.draws ≡ after (5 * l.i) l.start;
  file : l.file.items ++ rest_of l.n (λ i. person_line (i + 1) (after (5 * i) l.start)) l.i ≡ generated_people l.n l.start;
}

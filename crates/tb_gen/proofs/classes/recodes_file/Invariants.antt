use Rattle.std.proofs.Common.{◌≡◌, ◌++◌}
use Rattle.tb_gen.specs.Generated.{recode_line, generated_recodes}
use Rattle.tb_gen.proofs.Steps.{rest_of}
use Rattle.tb_gen.proofs.classes.recodes_file.Given as goal

abbrev pub invariant-loop-age : goal.invariant-loop-age
invariant-loop-age l = l.file.items ++ rest_of 101 recode_line l.age ≡ generated_recodes

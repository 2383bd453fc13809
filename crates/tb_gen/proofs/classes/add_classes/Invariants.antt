use Rattle.std.proofs.Common.{◌≡◌, ◌++◌}
use Rattle.tb_gen.specs.Variables.{categories_of}
use Rattle.tb_gen.specs.Generated.{class_line, class_lines}
use Rattle.tb_gen.proofs.Steps.{rest_of}
use Rattle.tb_gen.proofs.classes.add_classes.Given as goal

abbrev pub invariant-loop-category : goal.invariant-loop-category
invariant-loop-category l = l.file.items ++ rest_of (categories_of l.variable) (class_line l.variable) l.category
    ≡ l.fn.file.items ++ class_lines l.variable

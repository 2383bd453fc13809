use Rattle.std.proofs.Common.{◌≤◌, All}
use Rattle.tb_base.specs.declared.people.TheConstants.{MOST_PERSONS}
use Rattle.tb_line_tests.proofs.making.few_cells.Given as goal

abbrev pub invariant-loop-pair : goal.invariant-loop-pair
invariant-loop-pair l = All (λ cell. cell.count ≤ MOST_PERSONS) l.cells.items

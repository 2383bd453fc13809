use Rattle.tb_base.specs.Records.{AllFit}
use Rattle.tb_model.specs.Schemas.{shape_of}
use Rattle.tb_cell_tests.proofs.limits.wrong_turn.Given as goal

-- the records of the release so far fit
abbrev pub invariant-loop-i : goal.invariant-loop-i
invariant-loop-i l = AllFit (shape_of l.schema) l.release.records

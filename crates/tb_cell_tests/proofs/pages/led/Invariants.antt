use Rattle.tb_base.specs.Records.{AllFit}
use Rattle.tb_model.specs.Schemas.{shape_of}
use Rattle.tb_cell_tests.proofs.pages.led.Given as goal

-- the records of the release so far fit
abbrev pub invariant-loop-deeds : goal.invariant-loop-deeds
invariant-loop-deeds l = AllFit (shape_of l.schema) l.release.records

use Rattle.std.specs.Prelude.{All}
use Rattle.tb_model.specs.Schemas.{shape_of}
use Rattle.tb_release.specs.Laws.{EditFits}
use Rattle.tb_small_values.proofs.values.edits_of.Given as goal

-- the edits so far fit
abbrev pub invariant-loop-line : goal.invariant-loop-line
invariant-loop-line l = All (EditFits (shape_of l.schema)) l.edits

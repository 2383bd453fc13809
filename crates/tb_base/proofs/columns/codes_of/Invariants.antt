use Rattle.std.proofs.Common.{◌≡◌, take}
use Rattle.tb_base.specs.Pieces.{code_column}
use Rattle.tb_base.proofs.columns.codes_of.Given as goal

abbrev pub invariant-loop-one : goal.invariant-loop-one
invariant-loop-one l = l.codes.items ≡ code_column (take l.one-index l.records) l.v

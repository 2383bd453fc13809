use Rattle.std.proofs.Common.{◌≡◌, take}
use Rattle.tb_base.specs.Pieces.{key_column}
use Rattle.tb_base.proofs.columns.keys_of.Given as goal

abbrev pub invariant-loop-one : goal.invariant-loop-one
invariant-loop-one l = l.keys.items ≡ key_column (take l.one-index l.records)

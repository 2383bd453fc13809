use Rattle.std.proofs.Common.{◌≡◌, take}
use Rattle.tb_base.proofs.piece.copies_of.Given as goal

abbrev pub invariant-loop-one : goal.invariant-loop-one
invariant-loop-one l = l.copies.items ≡ take l.one-index l.records

use Rattle.std.proofs.Common.{take}
use Rattle.tb_scan.specs.Scanning.{ArePut}
use Rattle.tb_scan.proofs.put.put_by_three.Given as goal

abbrev pub invariant-loop-one : goal.invariant-loop-one
invariant-loop-one l = ArePut l.plan l.initial.cells (take l.one-index l.piece) l.cells

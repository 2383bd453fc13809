use Rattle.std.proofs.Common.{◌≡◌, drop}
use Rattle.tb_cube.specs.Packing.{put_at}
use Rattle.tb_cube.proofs.packing.put_back.Given as goal

abbrev pub invariant-loop-one : goal.invariant-loop-one
invariant-loop-one l = put_at (drop l.one-index l.kept) l.cells ≡ put_at l.kept l.initial.cells

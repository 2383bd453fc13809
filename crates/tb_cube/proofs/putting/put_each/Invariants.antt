use Rattle.std.proofs.Common.{◌≡◌, ◌+◌, ◌-◌, ◌^◌, ◌<◌, length, drop, All}
use Rattle.tb_cube.specs.Axes.{with_all}
use Rattle.tb_cube.proofs.putting.put_each.Given as goal

abbrev pub invariant-loop-one : goal.invariant-loop-one
invariant-loop-one l = record {
  with_them : with_all l.axes l.cells (drop l.one-index l.piece) ≡ with_all l.axes l.initial.cells l.piece;
  room : All (λ c. c.count + (length l.piece - l.one-index) < 2 ^ 32) l.cells;
}

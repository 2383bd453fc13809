use Rattle.std.proofs.Common.{◌≡◌, ◌+◌, ◌-◌, ◌^◌, ◌<◌, length, drop, All}
use Rattle.tb_cube.specs.Axes.{with_all}
use Rattle.tb_cube.proofs.columns.add_by_two.Given as goal

abbrev pub invariant-loop-i : goal.invariant-loop-i
invariant-loop-i l = record {
  with_them : with_all l.axes l.cells (drop l.i l.records) ≡ with_all l.axes l.initial.cells l.records;
  room : All (λ c. c.count + (length l.records - l.i) < 2 ^ 32) l.cells;
}

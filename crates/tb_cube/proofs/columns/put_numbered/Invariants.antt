use Rattle.std.proofs.Common.{◌≡◌, ◌+◌, ◌-◌, ◌^◌, ◌<◌, List, length, drop, All}
use Rattle.tb_base.specs.declared.records.Record.{Record}
use Rattle.tb_cube.specs.declared.axes.Axis.{Axis}
use Rattle.tb_cube.specs.Axes.{with_all, AreNumbered}
use Rattle.tb_cube.proofs.columns.put_numbered.Given as goal

abbrev pub invariant-loop-k : goal.invariant-loop-k
invariant-loop-k l = record {
  with_them : (axes : List Axis) (records : List Record) → AreNumbered (length l.initial.cells) axes records l.numbers l.keys
      → with_all axes l.cells (drop l.k records) ≡ with_all axes l.initial.cells records;
  room : All (λ c. c.count + (length l.keys - l.k) < 2 ^ 32) l.cells;
}

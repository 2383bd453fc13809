use Rattle.std.proofs.Common.{◌≡◌, map, take}
use Rattle.tb_cube.specs.Axes.{numbers_by}
use Rattle.tb_cube.proofs.tallying.write_columns.Given as goal

abbrev pub invariant-loop-k : goal.invariant-loop-k
invariant-loop-k l = record {
  numbers : take l.k l.numbers ≡ numbers_by l.axes (take l.k l.chunk);
  keys : take l.k l.keys ≡ map (λ r. r.key) (take l.k l.chunk);
}

use Rattle.std.proofs.Common.{ℕ, ◌-◌, ◌<◌, ◌≤◌, length, get_or}
use Rattle.tb_cube.specs.declared.packing.KeptCell.{KeptCell}
use Rattle.tb_cube.proofs.packing.cell_in.Given as goal

abbrev pub invariant-loop-low : goal.invariant-loop-low
invariant-loop-low l = record {
  order : l.low ≤ l.high;
  within : l.high ≤ length l.kept;
  before : (j : ℕ) (d : KeptCell) → j < l.low → (get_or l.kept j d).place < l.place;
  after : (j : ℕ) (d : KeptCell) → l.high ≤ j → j < length l.kept → l.place < (get_or l.kept j d).place;
}

abbrev pub decreases-loop-low : goal.decreases-loop-low
decreases-loop-low l = l.high - l.low

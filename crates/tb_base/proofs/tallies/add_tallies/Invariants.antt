use Rattle.std.proofs.Common.{ℕ, ◌<◌, get_or}
use Rattle.tb_base.specs.declared.cells.Cell.{Cell}
use Rattle.tb_base.specs.Cells.{IsReduced}
use Rattle.tb_base.proofs.TallyLemmas.{TalliedBelow}
use Rattle.tb_base.proofs.tallies.add_tallies.Given as goal

abbrev pub invariant-loop-place : goal.invariant-loop-place
invariant-loop-place l = record {
  tallied : TalliedBelow l.place l.initial.cells l.places l.keys l.cells;
  reduced : (i : ℕ) (d : Cell) → i < l.place → IsReduced (get_or l.cells i d);
}

use Rattle.std.proofs.Common.{◌+◌}
use Rattle.std.specs.Prelude.{length}
use Rattle.tb_units.specs.Pairs.{pair_at}
use Rattle.tb_unit_cells.specs.Marking.{link_leads}
use Rattle.tb_unit_cells.proofs.Along.{Along}
use Rattle.tb_unit_cells.proofs.marking.mark_dwelling.Given as goal

abbrev pub invariant-loop-k : goal.invariant-loop-k
invariant-loop-k l = Along l.units.links (pair_at l.units.dwellings l.d).0 (link_leads l.sizes (length l.initial.cells) l.numbers) (l.d + 1) (pair_at l.units.dwellings l.d).1
    l.initial.seen l.initial.cells l.k l.seen l.cells

abbrev pub decreases-loop-k : goal.decreases-loop-k
decreases-loop-k l = l.k

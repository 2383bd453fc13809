use Rattle.std.proofs.Common.{length, ◌-◌}
use Rattle.tb_grid.proofs.totals.+signed_from.Given as goal

abbrev pub decreases-signed_from : goal.decreases-signed_from
decreases-signed_from l = length l.sizes.now - l.d

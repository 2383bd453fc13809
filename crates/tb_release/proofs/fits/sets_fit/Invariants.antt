use Rattle.std.proofs.Common.{◌≡◌, drop}
use Rattle.std.specs.List.{list_all}
use Rattle.tb_release.specs.Fitting.{setting_fits}
use Rattle.tb_release.proofs.fits.sets_fit.Given as goal

abbrev pub invariant-loop-i : goal.invariant-loop-i
invariant-loop-i l = list_all (setting_fits l.shape) (drop l.i l.sets) ≡ list_all (setting_fits l.shape) l.sets

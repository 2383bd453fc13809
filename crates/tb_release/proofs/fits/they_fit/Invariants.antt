use Rattle.std.proofs.Common.{◌≡◌, drop}
use Rattle.tb_release.specs.Fitting.{codes_fit}
use Rattle.tb_release.proofs.fits.they_fit.Given as goal

abbrev pub invariant-loop-i : goal.invariant-loop-i
invariant-loop-i l = codes_fit (drop l.i l.shape) (drop l.i l.codes) ≡ codes_fit l.shape l.codes

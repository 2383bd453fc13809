use Rattle.std.proofs.Common.{◌≡◌, drop}
use Rattle.tb_release.specs.Fitting.{edits_fit}
use Rattle.tb_release.proofs.fits.edits_fit.Given as goal

-- the edits that are left fit exactly where all do
abbrev pub invariant-loop-i : goal.invariant-loop-i
invariant-loop-i l = edits_fit l.shape (drop l.i l.edits) ≡ edits_fit l.shape l.edits

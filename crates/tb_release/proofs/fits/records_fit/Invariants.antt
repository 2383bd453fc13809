use Rattle.std.proofs.Common.{ℕ, ◌<◌, get_or}
use Rattle.tb_base.specs.declared.records.Record.{Record}
use Rattle.tb_base.specs.Records.{Fits}
use Rattle.tb_release.proofs.fits.records_fit.Given as goal

-- the records so far fit
abbrev pub invariant-loop-one : goal.invariant-loop-one
invariant-loop-one l = (k : ℕ) (d : Record) → k < l.one-index → Fits l.shape (get_or l.records k d)

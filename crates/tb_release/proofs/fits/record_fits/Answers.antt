use Rattle.std.proofs.Common.{sym, ◌∙◌}
use Rattle.std.specs.Prelude.{nat_lt}
use Rattle.std.proofs.lemmas.Bool.{and_from}
use Rattle.tb_base.specs.declared.keys.TheConstants.{MOST_KEYS}
use Rattle.tb_release.specs.Fitting.{codes_fit}
use Rattle.tb_release.proofs.FitTests.{record_told}
use Rattle.tb_release.proofs.fits.record_fits.Goals as goal

pub returns-then-is_key-clause-told : goal.returns-then-is_key-clause-told
returns-then-is_key-clause-told c = λ h person.
    record_told c.args.shape.now person c.args.key c.args.codes.now
    (and_from (nat_lt c.args.key MOST_KEYS) (codes_fit c.args.shape.now c.args.codes.now) (sym c.if-is_key.ensures)
    (sym c.they_fit.ensures ∙ h))

use Rattle.std.proofs.Common.{sym, ◌∙◌}
use Rattle.tb_release.proofs.FitTests.{apart}
use Rattle.tb_release.proofs.fits.they_fit.Goals as goal

pub returns-then-len : goal.returns-then-len
returns-then-len c = sym (apart c.args.shape.now c.args.codes.now (λ e. c.if-len.true (c.len.ensures ∙ e ∙ sym c.len-2.ensures)))

use Rattle.std.proofs.Common.{sym, ◌∙◌}
use Rattle.tb_journal.proofs.Fitted.{fits-told, fits-shape, fits-range}
use Rattle.tb_journal.proofs.fitting.fits.Goals as goal

pub returns-then-edits_fit : goal.returns-then-edits_fit
returns-then-edits_fit c = (
  λ range. fits-told c.args.shape.now c.args.keys c.args.edits.now (sym c.if-edits_fit.ensures.test) (sym c.are_in_range.ensures ∙ range),
  λ all. c.are_in_range.ensures ∙ fits-range c.args.shape.now c.args.keys c.args.edits.now all,
)

pub returns-else-edits_fit : goal.returns-else-edits_fit
returns-else-edits_fit c = (
  λ fit. absurd cc,
  λ all. c.edits_fit.ensures.test ∙ fits-shape c.args.shape.now c.args.keys c.args.edits.now all,
)

use Rattle.std.proofs.Common.{sym, ap, ◌∙◌}
use Rattle.std.specs.Prelude.{◌&&◌, nat_le}
use Rattle.tb_cube.specs.Cubes.{cell_count}
use Rattle.tb_grid.specs.declared.products.TheConstants.{MOST_CELLS}
use Rattle.tb_core.proofs.FitLemmas.{cut_off-le, has_told, there_told}
use Rattle.tb_core.proofs.fitting.fits_a_cube.Goals as goal

pub cells_over-requires-clause-there : goal.cells_over-requires-clause-there
cells_over-requires-clause-there c = there_told c.args.shape.now c.args.vars.now (sym c.if-not-are_there.ensures)

pub returns-clause-test : goal.returns-clause-test
returns-clause-test c =
    let cells = cell_count c.args.shape.now c.args.vars.now in
    ap (λ n. nat_le n MOST_CELLS) c.cells_over.ensures ∙ cut_off-le cells MOST_CELLS ∙ ap (λ b. b && nat_le cells MOST_CELLS) c.if-not-are_there.ensures

pub returns-clause-told : goal.returns-clause-told
returns-clause-told c = λ h.
    let cells = cell_count c.args.shape.now c.args.vars.now in
    let test = ap (λ n. nat_le n MOST_CELLS) c.cells_over.ensures ∙ cut_off-le cells MOST_CELLS ∙ ap (λ b. b && nat_le cells MOST_CELLS) c.if-not-are_there.ensures in
    has_told c.args.shape.now c.args.vars.now (sym test ∙ h)

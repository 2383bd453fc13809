use Rattle.std.proofs.Common.{◌≡◌, ◌∙◌, ap, sym, true}
use Rattle.std.specs.Prelude.{is_some}
use Rattle.tb_plan.specs.Plans.{cube_cells_of}
use Rattle.tb_tables.proofs.Cubed.{has-cube, not-none}
use Rattle.tb_tables.proofs.count.count_anew.Goals as goal

pub build-requires-clause-has : goal.build-requires-clause-has
build-requires-clause-has g c = λ κs lives.
    let some : is_some (cube_cells_of c.args.plan.now) ≡ true = ap is_some (sym c.cube_cells.ensures) ∙ sym c.is_some.ensures ∙ c.if-is_some.true in
    rw c.vars.ensures.vars (has-cube c.args.plan.now c.args.shape.now c.requires.shape (not-none (cube_cells_of c.args.plan.now) some))

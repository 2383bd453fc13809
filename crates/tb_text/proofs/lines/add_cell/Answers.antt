use Rattle.std.proofs.Common.{◌++◌, ap}
use Rattle.std.proofs.lemmas.Result.{on_err_weaker, on_ok_weaker}
use Rattle.tb_text.proofs.Passes.{on_as, cut_as}
use Rattle.tb_text.proofs.Rows.{cell_line}
use Rattle.tb_text.proofs.lines.add_cell.Goals as goal

pub returns-clause-on : goal.returns-clause-on
returns-clause-on g c =
    on_ok_weaker c.add_line.result
    (on_as (ap (λ x. c.args.waiting.now ++ x) (cell_line c.args.setup.now c.args.rules.now _ _ _ _ c.args.cell _ c.shown-shown.ensures c.field_len-field_len.ensures c.wide_field-field.ensures.part)))
    c.add_line.ensures.on

pub returns-clause-cut : goal.returns-clause-cut
returns-clause-cut g c =
    on_err_weaker c.add_line.result
    (cut_as (ap (λ x. c.args.waiting.now ++ x) (cell_line c.args.setup.now c.args.rules.now _ _ _ _ c.args.cell _ c.shown-shown.ensures c.field_len-field_len.ensures c.wide_field-field.ensures.part)))
    c.add_line.ensures.cut

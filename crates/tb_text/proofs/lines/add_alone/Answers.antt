use Rattle.std.proofs.Common.{◌++◌, ap, refl, arith}
use Rattle.std.proofs.lemmas.List.{drop_all}
use Rattle.tb_text.proofs.Passes.{nothing_added, on_as, cut_as, on_err}
use Rattle.tb_text.proofs.Rows.{alone_line}
use Rattle.tb_text.proofs.lines.add_alone.Goals as goal

pub returns-then-at-cells-clause-on : goal.returns-then-at-cells-clause-on
returns-then-at-cells-clause-on g c = nothing_added _ _ _ _ (rw (drop_all c.args.at c.args.cells.now (omega arith)) refl)

pub returns-in_err-add_line-clause-cut : goal.returns-in_err-add_line-clause-cut
returns-in_err-add_line-clause-cut g c =
    on_err c.from_residual.result _
    (cut_as (ap (λ x. c.args.waiting.now ++ x) (alone_line c.args.setup.now c.args.rules.now _ c.args.cells.now c.args.at _ _ (omega arith) c.shown-shown.ensures)) c.in_err-add_line.ensures.cut)

pub returns-clause-on : goal.returns-clause-on
returns-clause-on g c =
    on_as (ap (λ x. c.args.waiting.now ++ x) (alone_line c.args.setup.now c.args.rules.now _ c.args.cells.now c.args.at _ _ (omega arith) c.shown-shown.ensures)) c.in_ok-add_line.ensures.on

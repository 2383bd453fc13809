use Rattle.std.proofs.Common.{◌++◌, ◌∙◌, ℕ, List, [], ap}
use Rattle.std.specs.Prelude.{codes}
use Rattle.tb_model.specs.Rules.{pvalues_in}
use Rattle.tb_model.specs.Texts.{line_text}
use Rattle.tb_text.specs.Lines.{end_of, lines_under}
use Rattle.tb_text.specs.PreparedTables.{PreparedValue, prepared_text}
use Rattle.tb_text.proofs.Passes.{kept_whole}
use Rattle.tb_text.proofs.prepared.Prepared.text.Goals as goal

pub returns-in-Ok : goal.returns-in-Ok
returns-in-Ok c =
    let inside = c.self.inside in
    let end = end_of (pvalues_in inside.setup.now c.args.rules.now) c.args.rules.now.threshold in
    c.in_ok-text-in-Ok.ensures
    ∙ ap (λ xs. xs ++ line_text (codes ".")) (kept_whole c.new-whole.ensures c.in-Ok.ensures.on)
    ∙ ap (λ (fs : List (List (List ℕ))). (inside.waiting ++ lines_under end [] fs c.args.cells.now) ++ line_text (codes ".")) c.deref.ensures.value
    ∙ ap (λ (p : PreparedValue). prepared_text p c.args.rules.now c.args.cells.now) c.self.view_is

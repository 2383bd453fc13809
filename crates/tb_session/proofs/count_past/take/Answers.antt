use Rattle.std.proofs.Common.{◌≡◌, ◌∙◌, ap, sym, false, Some, None}
use Rattle.std.specs.Prelude.{is_some}
use Rattle.std.proofs.lemmas.Result.{IfOk-weaker}
use Rattle.tb_board.specs.Starts.{StartValue}
use Rattle.tb_plan.specs.Plans.{cube_cells_of}
use Rattle.tb_session.proofs.PastTaking.{for_plan, none_of}
use Rattle.tb_session.proofs.count_past.take.Goals as goal

pub returns-then-is_some-clause-taken : goal.returns-then-is_some-clause-taken
returns-then-is_some-clause-taken g c =
    let shape : c.take.new.pass.start.shape ≡ c.args.plan.now.shape = ap (λ (s : StartValue). s.shape) c.take.ensures.later.base ∙ c.requires.fits in
    IfOk-weaker c.take.result _ _ (λ taken is. for_plan c.args.plan.now taken c.take.new.pass (Some c.vars.result.now) is shape (λ some. ap Some c.vars.ensures.vars)) c.take.ensures.taken

pub returns-else-is_some-clause-taken : goal.returns-else-is_some-clause-taken
returns-else-is_some-clause-taken g c =
    let shape : c.take-else-is_some.new.pass.start.shape ≡ c.args.plan.now.shape = ap (λ (s : StartValue). s.shape) c.take-else-is_some.ensures.later.base ∙ c.requires.fits in
    let none : cube_cells_of c.args.plan.now ≡ None = sym c.cube_cells.ensures ∙ none_of c.cube_cells.result (sym c.is_some.ensures ∙ c.if-is_some.false) in
    IfOk-weaker c.take-else-is_some.result _ _ (λ taken is. for_plan c.args.plan.now taken c.take-else-is_some.new.pass None is shape (λ some. absurd (some none))) c.take-else-is_some.ensures.taken

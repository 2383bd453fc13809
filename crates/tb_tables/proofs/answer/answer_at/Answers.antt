use Rattle.std.proofs.Common.{List, ℕ, length, refl, subst, sym}
use Rattle.tb_tables.specs.Answers.{Answers, table_reply}
use Rattle.tb_tables.proofs.QueryAnswers.{by-fault, by-text}
use Rattle.tb_tables.proofs.answer.answer_at.Goals as goal

pub returns-in-Ok : goal.returns-in-Ok
returns-in-Ok g c =
    let setup = c.args.setup.now in
    let release = c.args.release.now in
    let line = c.args.line.now in
    subst (λ (text : List ℕ). Answers setup release (λ query. length release.records) line text c.args.steps.now c.table_anew-table.new.steps) (sym c.of_table.ensures)
    (by-text setup (table_reply setup release (λ query. length release.records)) line c.args.steps.now c.table_anew-table.new.steps c.in-Ok.query c.table_anew-table.result c.in-Ok.ensures.read c.table_anew-table.ensures.text c.table_anew-table.ensures.price)

pub returns-in-Err : goal.returns-in-Err
returns-in-Err g c =
    let setup = c.args.setup.now in
    let release = c.args.release.now in
    let line = c.args.line.now in
    subst (λ (text : List ℕ). Answers setup release (λ query. length release.records) line text c.args.steps.now c.args.steps.now) (sym c.of_fault.ensures)
    (by-fault setup (table_reply setup release (λ query. length release.records)) line c.args.steps.now c.args.steps.now c.in-Err.fault c.in-Err.ensures.refused refl)

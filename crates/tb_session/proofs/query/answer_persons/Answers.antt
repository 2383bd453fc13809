use Rattle.std.proofs.Common.{List, ℕ, refl, subst, sym}
use Rattle.tb_board.specs.Holders.{release_seen}
use Rattle.tb_session.specs.Replies.{table_price}
use Rattle.tb_tables.specs.Answers.{Answers, table_reply}
use Rattle.tb_tables.proofs.QueryAnswers.{by-fault, by-text}
use Rattle.tb_session.proofs.query.answer_persons.Goals as goal

pub returns-in-Ok-clause-answer : goal.returns-in-Ok-clause-answer
returns-in-Ok-clause-answer g c =
    let setup = c.args.setup.now in
    let release = release_seen c.table_over_board-table.new.pass in
    let line = c.args.line.now in
    subst (λ (text : List ℕ). Answers setup release (table_price setup release) line text c.args.steps.now c.table_over_board-table.new.steps) (sym c.of_table.ensures)
    (by-text setup (table_reply setup release (table_price setup release)) line c.args.steps.now c.table_over_board-table.new.steps c.in-Ok.query c.table_over_board-table.result c.in-Ok.ensures.read c.table_over_board-table.ensures.text c.table_over_board-table.ensures.price)

pub returns-in-Err-clause-answer : goal.returns-in-Err-clause-answer
returns-in-Err-clause-answer g c =
    let setup = c.args.setup.now in
    let release = release_seen c.args.pass.now in
    let line = c.args.line.now in
    subst (λ (text : List ℕ). Answers setup release (table_price setup release) line text c.args.steps.now c.args.steps.now) (sym c.of_fault.ensures)
    (by-fault setup (table_reply setup release (table_price setup release)) line c.args.steps.now c.args.steps.now c.in-Err.fault c.in-Err.ensures.refused refl)

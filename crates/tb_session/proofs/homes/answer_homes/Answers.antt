use Rattle.std.proofs.Common.{◌≡◌, ◌∙◌, List, ℕ, refl, subst, sym}
use Rattle.tb_board.specs.Holders.{release_seen}
use Rattle.tb_query.specs.Faults.{IsRefused, Reads}
use Rattle.tb_session.specs.Dwellings.{as_table}
use Rattle.tb_tables.specs.Answers.{AnswersBy}
use Rattle.tb_tables.specs.Homes.{homes_reply}
use Rattle.tb_tables.proofs.QueryAnswers.{by-fault, by-text}
use Rattle.tb_session.proofs.homes.answer_homes.Goals as goal

pub returns-in-Ok-read-clause-answer : goal.returns-in-Ok-read-clause-answer
returns-in-Ok-read-clause-answer g c =
    let setup = c.args.setup.now in
    let whole = homes_reply setup c.args.units.now (release_seen c.homes_over_board-table.new.pass) in
    let line = as_table c.args.line.now in
    let is : c.deref.result.now ≡ line = c.deref.ensures.value ∙ c.in-Ok.ensures.text in
    let reads : Reads setup.schema line c.in-Ok-read.query = subst (λ (l : List ℕ). Reads setup.schema l c.in-Ok-read.query) is c.in-Ok-read.ensures.read in
    subst (λ (text : List ℕ). AnswersBy setup whole line text c.args.steps.now c.homes_over_board-table.new.steps) (sym c.of_table.ensures)
    (by-text setup whole line c.args.steps.now c.homes_over_board-table.new.steps c.in-Ok-read.query c.homes_over_board-table.result reads c.homes_over_board-table.ensures.text c.homes_over_board-table.ensures.price)

pub returns-clause-answer : goal.returns-clause-answer
returns-clause-answer g c =
    let setup = c.args.setup.now in
    let whole = homes_reply setup c.args.units.now (release_seen c.args.pass.now) in
    let line = as_table c.args.line.now in
    let is : c.deref.result.now ≡ line = c.deref.ensures.value ∙ c.in-Ok.ensures.text in
    let refused : IsRefused setup.schema line c.in-Err-read.fault = subst (λ (l : List ℕ). IsRefused setup.schema l c.in-Err-read.fault) is c.in-Err-read.ensures.refused in
    subst (λ (text : List ℕ). AnswersBy setup whole line text c.args.steps.now c.args.steps.now) (sym c.of_fault.ensures)
    (by-fault setup whole line c.args.steps.now c.args.steps.now c.in-Err-read.fault refused refl)

use Rattle.std.proofs.Common.{◌≡◌, ◌∙◌, List, ℕ, Option, None, Some, subst, sym, ap}
use Rattle.std.specs.Option.{option_copied}
use Rattle.tb_board.specs.Holders.{release_seen}
use Rattle.tb_model.specs.Units.{UnitsValue}
use Rattle.tb_session.specs.Dwellings.{homes_asked, read_as}
use Rattle.tb_session.specs.Replies.{whole_of}
use Rattle.tb_tables.specs.Answers.{AnswersBy}
use Rattle.tb_tables.specs.ReplyTexts.{table_reply_text}
use Rattle.tb_session.proofs.query.answer_query.Goals as goal

pub returns-in-Some-clause-answer : goal.returns-in-Some-clause-answer
returns-in-Some-clause-answer g c =
    let setup = c.args.setup.now in
    let line = c.args.line.now in
    let release = release_seen c.answer_homes.new.pass in
    let asked : Some c.in-Some.units.now ≡ homes_asked setup line = ap option_copied (sym c.in-Some.is) ∙ c.homes_asked.ensures.asked in
    subst (λ (o : Option UnitsValue). AnswersBy setup (whole_of setup release o) (read_as o line) (table_reply_text c.answer_homes.result) c.args.steps.now c.answer_homes.new.steps) asked c.answer_homes.ensures.answer

pub returns-in-None-clause-answer : goal.returns-in-None-clause-answer
returns-in-None-clause-answer g c =
    let setup = c.args.setup.now in
    let line = c.args.line.now in
    let release = release_seen c.answer_persons.new.pass in
    let asked : None ≡ homes_asked setup line = ap option_copied (sym c.in-None.is) ∙ c.homes_asked.ensures.asked in
    subst (λ (o : Option UnitsValue). AnswersBy setup (whole_of setup release o) (read_as o line) (table_reply_text c.answer_persons.result) c.args.steps.now c.answer_persons.new.steps) asked c.answer_persons.ensures.answer

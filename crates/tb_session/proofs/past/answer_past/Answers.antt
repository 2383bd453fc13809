use Rattle.std.proofs.Common.{List, ℕ, refl, subst, sym}
use Rattle.tb_session.specs.PastTables.{past_reply}
use Rattle.tb_session.proofs.PastReplies.{by-reply}
use Rattle.tb_tables.specs.Answers.{AnswersBy}
use Rattle.tb_tables.proofs.QueryAnswers.{by-fault}
use Rattle.tb_session.proofs.past.answer_past.Goals as goal

pub returns-in-Err-clause-answer : goal.returns-in-Err-clause-answer
returns-in-Err-clause-answer g c =
    let setup = c.args.setup.now in
    let seen = c.args.pass.now in
    let whole = past_reply setup seen.start.base seen.list c.args.number in
    let line = c.past_query.result.now in
    rw (sym c.past_query.ensures.query)
    (subst (λ (text : List ℕ). AnswersBy setup whole line text c.args.steps.now c.args.steps.now) (sym c.of_fault.ensures) (by-fault setup whole line c.args.steps.now c.args.steps.now c.in-Err.fault c.in-Err.ensures.refused refl))

pub returns-in-Ok-clause-answer : goal.returns-in-Ok-clause-answer
returns-in-Ok-clause-answer g c =
    let setup = c.args.setup.now in
    let seen = c.reply_at-reply.new.pass in
    let whole = past_reply setup seen.start.base seen.list c.args.number in
    let line = c.past_query.result.now in
    rw (sym c.past_query.ensures.query)
    (subst (λ (text : List ℕ). AnswersBy setup whole line text c.args.steps.now c.reply_at-reply.new.steps) (sym c.or_memory.ensures)
    (by-reply setup whole line c.args.steps.now c.reply_at-reply.new.steps c.in-Ok.query c.reply_at-reply.result c.in-Ok.ensures.read c.reply_at-reply.ensures.text c.reply_at-reply.ensures.price))

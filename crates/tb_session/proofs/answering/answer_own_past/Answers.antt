use Rattle.std.proofs.Common.{◌≡◌, ◌∙◌, ap, subst, sym}
use Rattle.tb_board.specs.Custodians.{CustodianValue}
use Rattle.tb_board.specs.Holders.{HolderValue}
use Rattle.tb_session.specs.PastLines.{past_query}
use Rattle.tb_session.specs.PastTables.{past_reply}
use Rattle.tb_session.specs.ReplyTexts.{reply_text}
use Rattle.tb_tables.specs.Answers.{AnswersBy}
use Rattle.tb_session.proofs.answering.answer_own_past.Goals as goal

-- the pass has seen what the writer wrote
pub returns-clause-answer : goal.returns-clause-answer
returns-clause-answer g c =
    let seen : c.answer_past-reply.new.pass ≡ c.args.custodian.now.writer =
    ap (λ (k : CustodianValue). k.pass) (sym c.settle.ensures.same) ∙ c.settle.ensures.whole.same ∙ ap (λ (k : CustodianValue). k.writer) c.settle.ensures.same in
    subst (λ (h : HolderValue). AnswersBy c.args.setup.now (past_reply c.args.setup.now h.start.base h.list c.args.number) (past_query c.args.line.now) (reply_text c.answer_past-reply.result) c.args.steps.now c.answer_past-reply.new.steps) seen c.answer_past-reply.ensures.answer

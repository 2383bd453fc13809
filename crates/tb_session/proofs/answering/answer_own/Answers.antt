use Rattle.std.proofs.Common.{◌≡◌, ◌∙◌, ap, subst, sym}
use Rattle.tb_board.specs.Custodians.{CustodianValue}
use Rattle.tb_board.specs.Holders.{HolderValue, release_seen}
use Rattle.tb_session.specs.Replies.{AnswersLine}
use Rattle.tb_tables.specs.ReplyTexts.{table_reply_text}
use Rattle.tb_session.proofs.answering.answer_own.Goals as goal

-- the pass has seen what the writer wrote
pub returns-clause-answer : goal.returns-clause-answer
returns-clause-answer g c =
    let seen : c.answer_query-reply.new.pass ≡ c.args.custodian.now.writer =
    ap (λ (k : CustodianValue). k.pass) (sym c.settle.ensures.same) ∙ c.settle.ensures.whole.same ∙ ap (λ (k : CustodianValue). k.writer) c.settle.ensures.same in
    subst (λ (h : HolderValue). AnswersLine c.args.setup.now (release_seen h) c.args.line.now (table_reply_text c.answer_query-reply.result) c.args.steps.now c.answer_query-reply.new.steps) seen c.answer_query-reply.ensures.answer

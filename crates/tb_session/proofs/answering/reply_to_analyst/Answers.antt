use Rattle.std.proofs.Common.{◌∙◌, refl, sym, []}
use Rattle.tb_session.proofs.Leading.{analyst_description, analyst_nothing, analyst_past, analyst_query}
use Rattle.tb_session.specs.ReplyTexts.{reply_text}
use Rattle.tb_tables.specs.ReplyTexts.{table_reply_text}
use Rattle.tb_session.proofs.answering.reply_to_analyst.Goals as goal

pub returns-then-is_passed_over-clause-leads : goal.returns-then-is_passed_over-clause-leads
returns-then-is_passed_over-clause-leads g c =
    analyst_nothing c.args.setup.now c.args.pass.now c.args.pass.now c.args.line.now [] c.args.steps.now c.args.steps.now (sym c.is_passed_over.ensures ∙ c.if-is_passed_over.true) refl refl refl

pub returns-then-is_description-clause-leads : goal.returns-then-is_description-clause-leads
returns-then-is_description-clause-leads g c =
    analyst_description c.args.setup.now c.args.pass.now c.args.pass.now c.args.line.now (reply_text c.describe_setup.result) c.args.steps.now c.args.steps.now
    (sym c.is_passed_over.ensures ∙ c.if-is_passed_over.false) (sym c.is_description.ensures ∙ c.if-is_description.true) refl c.describe_setup.ensures refl

pub returns-clause-leads : goal.returns-clause-leads
returns-clause-leads g c =
    analyst_query c.args.setup.now c.args.pass.now c.answer_query.new.pass c.args.line.now (table_reply_text c.answer_query.result) c.args.steps.now c.answer_query.new.steps (sym c.is_passed_over.ensures ∙ c.if-is_passed_over.false) (sym c.is_description.ensures ∙ c.if-is_description.false) (sym c.past_number.ensures ∙ c.in_default.is) c.answer_query.ensures.later c.answer_query.ensures.answer

pub returns-in-Some-clause-leads : goal.returns-in-Some-clause-leads
returns-in-Some-clause-leads g c =
    analyst_past c.args.setup.now c.args.pass.now c.answer_past.new.pass c.args.line.now (reply_text c.answer_past.result) c.args.steps.now c.answer_past.new.steps c.in-Some.number
    (sym c.is_passed_over.ensures ∙ c.if-is_passed_over.false) (sym c.is_description.ensures ∙ c.if-is_description.false) (sym c.past_number.ensures ∙ c.in-Some.is) c.answer_past.ensures.later c.answer_past.ensures.answer

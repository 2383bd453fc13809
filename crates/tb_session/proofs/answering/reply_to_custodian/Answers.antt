use Rattle.std.proofs.Common.{◌∙◌, refl, sym, []}
use Rattle.tb_session.specs.ReplyTexts.{reply_text}
use Rattle.tb_tables.specs.ReplyTexts.{table_reply_text}
use Rattle.tb_session.proofs.Leading.{leads_to_capacity, leads_to_clear, leads_to_description, leads_to_edit, leads_to_nothing, leads_to_past, leads_to_publish, leads_to_stats, leads_to_table, own_stats}
use Rattle.tb_session.proofs.answering.reply_to_custodian.Goals as goal

pub returns-in-Nothing-clause-leads : goal.returns-in-Nothing-clause-leads
returns-in-Nothing-clause-leads g c =
    leads_to_nothing c.args.setup.now c.args.custodian.now c.args.custodian.now c.args.held.now c.args.held.now c.args.line.now [] c.args.steps.now c.args.steps.now
    (sym c.asks_of.ensures.asks ∙ c.in-Nothing.is) refl refl refl refl

pub returns-in-Description-clause-leads : goal.returns-in-Description-clause-leads
returns-in-Description-clause-leads g c =
    leads_to_description c.args.setup.now c.args.custodian.now c.args.custodian.now c.args.held.now c.args.held.now c.args.line.now (reply_text c.describe_setup.result) c.args.steps.now c.args.steps.now
    (sym c.asks_of.ensures.asks ∙ c.in-Description.is) refl refl c.describe_setup.ensures refl

pub returns-in-Table-clause-leads : goal.returns-in-Table-clause-leads
returns-in-Table-clause-leads g c =
    leads_to_table c.args.setup.now c.args.custodian.now c.answer_own.new.custodian c.args.held.now c.args.held.now c.args.line.now (table_reply_text c.answer_own.result) c.args.steps.now c.answer_own.new.steps
    (sym c.asks_of.ensures.asks ∙ c.in-Table.is) c.answer_own.ensures.same refl c.answer_own.ensures.answer

pub returns-in-At-clause-leads : goal.returns-in-At-clause-leads
returns-in-At-clause-leads g c =
    leads_to_past c.args.setup.now c.args.custodian.now c.answer_own_past.new.custodian c.args.held.now c.args.held.now c.args.line.now (reply_text c.answer_own_past.result) c.args.steps.now c.answer_own_past.new.steps
    c.in-At.number (sym c.asks_of.ensures.asks ∙ c.in-At.is) c.answer_own_past.ensures.same refl c.answer_own_past.ensures.answer

pub returns-in-Edit-clause-leads : goal.returns-in-Edit-clause-leads
returns-in-Edit-clause-leads g c =
    leads_to_edit c.args.setup.now c.args.custodian.now c.args.custodian.now c.args.held.now c.hold.new.held c.args.line.now (reply_text c.hold.result) c.args.steps.now c.args.steps.now
    (sym c.asks_of.ensures.asks ∙ c.in-Edit.is) refl c.hold.ensures.reply refl

pub returns-in-Publish-clause-leads : goal.returns-in-Publish-clause-leads
returns-in-Publish-clause-leads g c =
    leads_to_publish c.args.setup.now c.args.custodian.now c.publish.new.custodian c.args.held.now c.publish.new.held c.args.line.now (reply_text c.publish.result) c.args.steps.now c.args.steps.now
    (sym c.asks_of.ensures.asks ∙ c.in-Publish.is) c.publish.ensures.leads refl

pub returns-in-Stats-clause-leads : goal.returns-in-Stats-clause-leads
returns-in-Stats-clause-leads g c =
    leads_to_stats c.args.setup.now c.args.custodian.now c.stats.new.custodian c.args.held.now c.args.held.now c.args.line.now _ c.args.steps.now c.args.steps.now
    (sym c.asks_of.ensures.asks ∙ c.in-Stats.is) c.stats.ensures.same refl (c.stats.result, own_stats c.args.custodian.now c.stats.new.custodian c.stats.result c.requires.own.whole c.stats.ensures.same c.stats.ensures.stats, refl) refl

pub returns-in-Clear-clause-leads : goal.returns-in-Clear-clause-leads
returns-in-Clear-clause-leads g c =
    leads_to_clear c.args.setup.now c.args.custodian.now c.args.custodian.now c.args.held.now c.args.held.now c.args.line.now (reply_text c.clear.result) c.args.steps.now c.args.steps.now
    (sym c.asks_of.ensures.asks ∙ c.in-Clear.is) refl refl c.clear.ensures refl

pub returns-in-Cache-clause-leads : goal.returns-in-Cache-clause-leads
returns-in-Cache-clause-leads g c =
    leads_to_capacity c.args.setup.now c.args.custodian.now c.args.custodian.now c.args.held.now c.args.held.now c.args.line.now (reply_text c.resize.result) c.args.steps.now c.args.steps.now
    c.in-Cache.capacity (sym c.asks_of.ensures.asks ∙ c.in-Cache.is) refl refl c.resize.ensures refl

use Rattle.std.proofs.Common.{rules, ◌∙◌, sym}
use Rattle.tb_model.specs.Schemas.{shape_of}
use Rattle.tb_session.specs.Asks.{asks_of}
use Rattle.tb_session.specs.declared.party.Role.TheVariants as role
use Rattle.tb_keep.proofs.Owning.{owner_after, owner_party, owner_step, same_base}
use Rattle.tb_keep.proofs.Preparing.{over_shape, to_publish}
use Rattle.tb_keep.proofs.publisher.BoardPublisherPublisherSetting.answer_line.Goals as goal

-- ---- what was prepared is published
pub returns-then-is_to_publish-clause-ready : goal.returns-then-is_to_publish-clause-ready
returns-then-is_to_publish-clause-ready g c =
    let name = g.B.Named.name in
    let setup = c.args.setting.now.setup.now in
    let old = c.args.self.now.custody.party in
    let new = c.answer_prepared.new.party in
    let line = c.args.line.now in
    let done = c.answer_prepared.ensures.answered setup line c.args.steps.now (to_publish (asks_of role.Custodian line) (sym c.is_to_publish.ensures ∙ c.if-is_to_publish.true)) in (
      c.requires.ready.0,
      owner_after name (shape_of setup.schema) setup old new line done.reply c.has_few_variables.ensures c.requires.ready.1
          (over_shape name (shape_of setup.schema) old new c.requires.ready.1 c.answer_prepared.ensures.own) done.goes_on done.step,
      search rules,
    )

pub returns-then-is_to_publish-clause-base : goal.returns-then-is_to_publish-clause-base
returns-then-is_to_publish-clause-base g c =
    let line = c.args.line.now in
    let done = c.answer_prepared.ensures.answered c.args.setting.now.setup.now line c.args.steps.now (to_publish (asks_of role.Custodian line) (sym c.is_to_publish.ensures ∙ c.if-is_to_publish.true)) in
    same_base c.args.self.now.custody.party c.answer_prepared.new.party done.goes_on

pub returns-then-is_to_publish-clause-replied : goal.returns-then-is_to_publish-clause-replied
returns-then-is_to_publish-clause-replied g c =
    let setup = c.args.setting.now.setup.now in
    let line = c.args.line.now in
    let done = c.answer_prepared.ensures.answered setup line c.args.steps.now (to_publish (asks_of role.Custodian line) (sym c.is_to_publish.ensures ∙ c.if-is_to_publish.true)) in
    record {
      reply = done.reply;
      step = owner_step g.B.Named.name (shape_of setup.schema) setup c.args.self.now.custody.party c.answer_prepared.new.party line done.reply c.requires.ready.1 done.step;
      written = done.written;
      cost = done.cost;
    }

-- ---- any other line, and one for which nothing was prepared
pub answer-requires-clause-own : goal.answer-requires-clause-own
answer-requires-clause-own g c = λ κs within_κs. owner_party g.B.Named.name (shape_of c.args.setting.now.setup.now.schema) c.args.self.now.custody.party c.requires.ready.1

pub returns-clause-ready : goal.returns-clause-ready
returns-clause-ready g c =
    let done = c.answer.ensures in (
      c.requires.ready.0,
      owner_after g.B.Named.name (shape_of c.args.setting.now.setup.now.schema) c.args.setting.now.setup.now c.args.self.now.custody.party c.answer.new.party c.args.line.now done.answered.reply
          c.has_few_variables.ensures c.requires.ready.1 done.own done.answered.goes_on done.answered.step,
      search rules,
    )

pub returns-clause-base : goal.returns-clause-base
returns-clause-base g c = same_base c.args.self.now.custody.party c.answer.new.party c.answer.ensures.answered.goes_on

pub returns-clause-replied : goal.returns-clause-replied
returns-clause-replied g c =
    let done = c.answer.ensures.answered in
    record {
      reply = done.reply;
      step = owner_step g.B.Named.name (shape_of c.args.setting.now.setup.now.schema) c.args.setting.now.setup.now c.args.self.now.custody.party c.answer.new.party c.args.line.now done.reply c.requires.ready.1 done.step;
      written = done.written;
      cost = done.cost;
    }

use Rattle.tb_model.specs.Schemas.{recode_at}
use Rattle.tb_schema.specs.Views.{partial_view}
use Rattle.tb_schema.proofs.Lookups.{group-within}
use Rattle.tb_schema.proofs.schema.Schema.group_of.Goals as goal

pub returns-clause-within : goal.returns-clause-within
returns-clause-within c =
    group-within c.args.self.now.variables (recode_at c.args.self.now c.args.recode) (partial_view (c.recode.result.0.now, c.recode.result.1.now)) c.args.category c.group_of.result c.recode.ensures.value c.recode.ensures.groups
    c.requires.category c.group_of.ensures

use Rattle.tb_describe.specs.Lists.{name_record}
use Rattle.tb_describe.specs.Writers.{written}
use Rattle.tb_model.specs.declared.names.NameOf.TheVariants as name_of
use Rattle.tb_describe.proofs.OneMore.{one_more}
use Rattle.tb_describe.proofs.lists.add_variables.Goals as goal

pub loop-v-preserved : goal.loop-v-preserved
loop-v-preserved c = record {
  between = c.in_ok-add_variable.ensures.between;
  text = one_more (λ v. name_record c.args.schema.now (name_of.Variable v)) c.loop-v.v (written c.args.rows.now) (written c.loop-v.rows) (written c.add_variable.new.rows) c.loop-v.invariant.text c.in_ok-add_variable.ensures.text;
}

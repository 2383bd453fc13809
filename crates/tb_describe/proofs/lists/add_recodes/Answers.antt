use Rattle.tb_describe.specs.Lists.{name_record}
use Rattle.tb_describe.specs.Writers.{written}
use Rattle.tb_model.specs.declared.names.NameOf.TheVariants as name_of
use Rattle.tb_describe.proofs.OneMore.{one_more}
use Rattle.tb_describe.proofs.lists.add_recodes.Goals as goal

pub loop-r-preserved : goal.loop-r-preserved
loop-r-preserved c = record {
  between = c.in_ok-add_recode.ensures.between;
  text = one_more (λ r. name_record c.args.schema.now (name_of.Recode r)) c.loop-r.r (written c.args.rows.now) (written c.loop-r.rows) (written c.add_recode.new.rows) c.loop-r.invariant.text c.in_ok-add_recode.ensures.text;
}

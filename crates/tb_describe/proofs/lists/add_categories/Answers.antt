use Rattle.tb_describe.specs.Lists.{category_record}
use Rattle.tb_describe.specs.Writers.{written}
use Rattle.tb_describe.proofs.OneMore.{one_more}
use Rattle.tb_describe.proofs.lists.add_categories.Goals as goal

pub loop-category-preserved : goal.loop-category-preserved
loop-category-preserved c = record {
  between = c.in_ok-add_category.ensures.between;
  text = one_more (category_record c.args.schema.now c.args.of) c.loop-category.category (written c.args.rows.now) (written c.loop-category.rows) (written c.add_category.new.rows) c.loop-category.invariant.text c.in_ok-add_category.ensures.text;
}

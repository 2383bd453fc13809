use Rattle.std.proofs.Common.{◌∙◌, ◌∷◌, [], length, map}
use Rattle.std.proofs.lemmas.Result.{IfOk-weaker}
use Rattle.std.specs.Prelude.{codes}
use Rattle.std.specs.List.{range_with_len}
use Rattle.tb_describe.specs.Lists.{name_record, name_records}
use Rattle.tb_describe.specs.Writers.{written}
use Rattle.tb_model.specs.declared.names.NameOf.TheVariants as name_of
use Rattle.tb_describe.proofs.Whole.{joined, whole}
use Rattle.tb_describe.proofs.lists.list_names.Goals as goal

pub returns : goal.returns
returns c =
    let schema = c.args.schema.now in
    let variables = map (λ v. name_record schema (name_of.Variable v)) (range_with_len 0 (length schema.variables)) in
    let recodes = map (λ r. name_record schema (name_of.Recode r)) (range_with_len 0 (length schema.recodes)) in
    let all = joined variables recodes (written c.add_three.new.rows) (written c.add_variables.new.rows) (written c.add_recodes.new.rows) c.in_ok-add_variables.ensures.text c.in_ok-add_recodes.ensures.text in
    IfOk-weaker c.end_list.result _ _ (λ text h. h ∙ whole (codes "describe") (codes "name" ∷ codes "kind" ∷ codes "categories" ∷ []) (name_records schema)
    (written c.records_after-rows.result) (written c.add_three.new.rows) (written c.add_recodes.new.rows) (c.records_after-rows.ensures.text ∙ c.in_ok-line.ensures.items) c.in_ok-add_three.ensures.text all) c.end_list.ensures

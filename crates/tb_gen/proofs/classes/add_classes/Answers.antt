use Rattle.std.proofs.Common.{◌++◌, ◌<◌, ◌≤◌, ap, subst, arith}
use Rattle.tb_gen.specs.Variables.{categories_of}
use Rattle.tb_gen.specs.Generated.{class_line}
use Rattle.tb_gen.proofs.Steps.{all_left, one_more, none_left}
use Rattle.tb_gen.proofs.classes.add_classes.Goals as goal

pub loop-category-init : goal.loop-category-init
loop-category-init c = ap (λ t. c.args.file.now.items ++ t) (all_left (categories_of c.args.variable) (class_line c.args.variable))

pub loop-category-preserved : goal.loop-category-preserved
loop-category-preserved c =
    let count = c.categories-category-end.ensures.count in
    let below : c.loop-category.category < categories_of c.args.variable = subst (λ k. c.loop-category.category < k) count (omega arith) in
    one_more (categories_of c.args.variable) (class_line c.args.variable) c.loop-category.category _ _ _ below c.in_ok-add_class.ensures
    c.loop-category.invariant

pub returns : goal.returns
returns c =
    let count = c.categories-category-end.ensures.count in
    let past : categories_of c.args.variable ≤ c.loop-category.category = subst (λ k. k ≤ c.loop-category.category) count (omega arith) in
    none_left (categories_of c.args.variable) (class_line c.args.variable) c.loop-category.category _ _ past c.loop-category.invariant

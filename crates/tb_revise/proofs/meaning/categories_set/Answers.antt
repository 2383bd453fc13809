use Rattle.std.proofs.Common.{◌≡◌, ◌∙◌, sym, refl, None, Some, arith, rules}
use Rattle.tb_revise.specs.Meanings.{category_set}
use Rattle.tb_revise.proofs.Categories.{category-missing, category-more, no-more-categories}
use Rattle.tb_revise.proofs.meaning.categories_set.Goals as goal

pub returns-in_default-clause-missing : goal.returns-in_default-clause-missing
returns-in_default-clause-missing c =
    let none : category_set c.args.sets.now c.loop-v.v ≡ None = sym c.category_set.ensures ∙ c.in_default.is in
    rw (category-missing c.args.sets.now c.args.variables c.loop-v.v c.loop-v.categories.items c.loop-v.invariant (omega arith) none) refl

pub loop-v-preserved : goal.loop-v-preserved
loop-v-preserved c =
    let some : category_set c.args.sets.now c.loop-v.v ≡ Some c.in-Some.category = sym c.category_set.ensures ∙ c.in-Some.is in
    rw c.in_ok-push.ensures.items (category-more c.args.sets.now c.args.variables c.loop-v.v c.loop-v.categories.items c.loop-v.invariant c.in-Some.category (omega arith) some)

pub returns-clause-all : goal.returns-clause-all
returns-clause-all c =
    no-more-categories c.args.sets.now c.args.variables c.loop-v.v c.loop-v.categories.items c.loop-v.invariant (omega arith) ∙ search rules

use Rattle.std.proofs.Common.{◌<◌, length, ap, ◌∙◌, arith, false}
use Rattle.std.specs.Prelude.{slice_index}
use Rattle.std.proofs.lemmas.List.{get_or_default}
use Rattle.tb_plan.specs.Plans.{ConditionValue}
use Rattle.tb_plan.proofs.Parts.{kept-condition}
use Rattle.tb_plan.proofs.axes.Axes.passes.Goals as goal

pub index-requires-2 : goal.index-requires-2
index-requires-2 c =
    let k = kept-condition c.self.inside.shape c.self.inside.dimensions.items c.self.inside.filters.items c.self.inside.totals c.args.self.now c.args.f c.index.result.now c.self.view_is c.self.invariant c.requires.filter c.index.ensures in
    let same = ap (λ (x : ConditionValue). slice_index c.args.self.now.shape x.variable) k.view in
    omega (arith, same, k.is.long, c.index.result.now.passed.ok)

pub returns : goal.returns
returns c =
    let k = kept-condition c.self.inside.shape c.self.inside.dimensions.items c.self.inside.filters.items c.self.inside.totals c.args.self.now c.args.f c.index.result.now c.self.view_is c.self.invariant c.requires.filter c.index.ensures in
    let same = ap (λ (x : ConditionValue). slice_index c.args.self.now.shape x.variable) k.view in
    let there : c.args.value < length c.index.result.now.passed.items = omega (arith, same, k.is.long) in
    rw k.view (c.index-2.ensures ∙ get_or_default c.index.result.now.passed.items c.args.value c.index-2.result.now false there)

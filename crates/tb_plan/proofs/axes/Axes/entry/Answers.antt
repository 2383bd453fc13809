use Rattle.std.proofs.Common.{◌<◌, length, ap, ◌∙◌, arith}
use Rattle.std.specs.Prelude.{slice_index}
use Rattle.std.proofs.lemmas.List.{get_or_default}
use Rattle.tb_plan.specs.Plans.{DimensionValue}
use Rattle.tb_plan.proofs.Parts.{kept-dimension}
use Rattle.tb_plan.proofs.axes.Axes.entry.Goals as goal

pub index-requires-2 : goal.index-requires-2
index-requires-2 c =
    let k = kept-dimension c.self.inside.shape c.self.inside.dimensions.items c.self.inside.filters.items c.self.inside.totals c.args.self.now c.args.d c.index.result.now c.self.view_is c.self.invariant c.requires.dimension c.index.ensures in
    let same = ap (λ (x : DimensionValue). slice_index c.args.self.now.shape x.variable) k.view in
    omega (arith, same, k.is.long, c.index.result.now.entries.ok)

pub returns-clause-entry : goal.returns-clause-entry
returns-clause-entry c =
    let k = kept-dimension c.self.inside.shape c.self.inside.dimensions.items c.self.inside.filters.items c.self.inside.totals c.args.self.now c.args.d c.index.result.now c.self.view_is c.self.invariant c.requires.dimension c.index.ensures in
    let same = ap (λ (x : DimensionValue). slice_index c.args.self.now.shape x.variable) k.view in
    let there : c.args.value < length c.index.result.now.entries.items = omega (arith, same, k.is.long) in
    rw k.view (c.index-2.ensures ∙ get_or_default c.index.result.now.entries.items c.args.value c.index-2.result.now 0 there)

pub returns-clause-within : goal.returns-clause-within
returns-clause-within c =
    let k = kept-dimension c.self.inside.shape c.self.inside.dimensions.items c.self.inside.filters.items c.self.inside.totals c.args.self.now c.args.d c.index.result.now c.self.view_is c.self.invariant c.requires.dimension c.index.ensures in
    let same = ap (λ (x : DimensionValue). slice_index c.args.self.now.shape x.variable) k.view in
    let there : c.args.value < length c.index.result.now.entries.items = omega (arith, same, k.is.long) in
    let at = c.index-2.ensures ∙ get_or_default c.index.result.now.entries.items c.args.value c.index-2.result.now 0 there in
    rw (k.view, at) (k.is.within c.args.value there)

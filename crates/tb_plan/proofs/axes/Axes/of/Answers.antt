use Rattle.std.proofs.Common.{◌≤◌, map, ap, ◌∙◌, arith, length}
use Rattle.std.proofs.lemmas.List.{take_all}
use Rattle.tb_model.specs.Schemas.{shape_of}
use Rattle.tb_plan.specs.Plans.{dimension_of, condition_of}
use Rattle.tb_plan.specs.Views.{dimension_view, condition_view}
use Rattle.tb_plan.specs.Whole.{IsDimension, IsCondition}
use Rattle.tb_plan.proofs.Parts.{push-view, is-filter-name, some-category, kept-more, is-plan}
use Rattle.tb_plan.proofs.axes.Axes.of.Goals as goal

pub dimension_for-requires-clause-name : goal.dimension_for-requires-clause-name
dimension_for-requires-clause-name c = rw (c.dim.ensures c.dim.result) (c.requires.names c.loop-d.d c.dim.result (omega arith))

pub dimension_for-requires-clause-some : goal.dimension_for-requires-clause-some
dimension_for-requires-clause-some c =
    some-category c.args.schema.now c.dim.result c.soundness.ensures (rw (c.dim.ensures c.dim.result) (c.requires.names c.loop-d.d c.dim.result (omega arith)))

pub loop-d-preserved : goal.loop-d-preserved
loop-d-preserved c = record {
  made = push-view dimension_view (dimension_of c.args.schema.now) c.loop-d.dimensions.items c.push.new.self.items c.in_ok-dimension_for.field-0 c.args.query.now.dimensions c.loop-d.d c.dim.result (omega arith) c.loop-d.invariant.made
      (c.in_ok-dimension_for.ensures.view ∙ ap (dimension_of c.args.schema.now) (c.dim.ensures c.dim.result)) c.in_ok-push.ensures.items;
  are = kept-more dimension_view (IsDimension (shape_of c.args.schema.now)) c.loop-d.dimensions.items c.push.new.self.items
      c.in_ok-dimension_for.field-0 c.loop-d.invariant.are c.in_ok-dimension_for.ensures.is c.in_ok-push.ensures.items;
}

pub condition_for-requires : goal.condition_for-requires
condition_for-requires c = is-filter-name c.args.schema.now c.args.query.now c.loop-f.f c.filter.result.now c.requires (omega arith) c.filter.ensures

pub loop-f-preserved : goal.loop-f-preserved
loop-f-preserved c = record {
  made = push-view condition_view (condition_of c.args.schema.now) c.loop-f.filters.items c.push-in-loop-f.new.self.items c.in_ok-condition_for.field-0 c.args.query.now.filters c.loop-f.f c.filter.result.now (omega arith) c.loop-f.invariant.made
      (c.in_ok-condition_for.ensures.view ∙ ap (condition_of c.args.schema.now) c.filter.ensures) c.in_ok-push-2.ensures.items;
  are = kept-more condition_view (IsCondition (shape_of c.args.schema.now)) c.loop-f.filters.items c.push-in-loop-f.new.self.items
      c.in_ok-condition_for.field-0 c.loop-f.invariant.are c.in_ok-condition_for.ensures.is c.in_ok-push-2.ensures.items;
}

pub invariant_of-result : goal.invariant_of-result
invariant_of-result c =
    let done : length c.args.query.now.dimensions ≤ c.loop-d.d = omega arith in
    let ended : length c.args.query.now.filters ≤ c.loop-f.f = omega arith in
    is-plan c.args.schema.now c.args.query.now _ c.loop-d.dimensions.items c.loop-f.filters.items _ c.requires c.soundness.ensures (c.in_ok-copy.ensures ∙ c.shape.ensures)
    (c.loop-d.invariant.made ∙ ap (map (dimension_of c.args.schema.now)) (take_all c.loop-d.d c.args.query.now.dimensions done))
    (c.loop-f.invariant.made ∙ ap (map (condition_of c.args.schema.now)) (take_all c.loop-f.f c.args.query.now.filters ended)) c.totals.ensures c.loop-d.invariant.are c.loop-f.invariant.are

use Rattle.std.proofs.Common.{◌≡◌, map, take}
use Rattle.tb_model.specs.Schemas.{shape_of}
use Rattle.tb_plan.specs.Plans.{dimension_of, condition_of}
use Rattle.tb_plan.specs.Whole.{AreDimensions, AreConditions}
use Rattle.tb_plan.specs.Views.{dimension_view, condition_view}
use Rattle.tb_plan.proofs.axes.Axes.of.Given as goal

abbrev pub invariant-loop-d : goal.invariant-loop-d
invariant-loop-d l = record {
  made : map dimension_view l.dimensions.items ≡ map (dimension_of l.schema) (take l.d l.query.dimensions);
  are : AreDimensions (shape_of l.schema) (map dimension_view l.dimensions.items);
}

abbrev pub invariant-loop-f : goal.invariant-loop-f
invariant-loop-f l = record {
  made : map condition_view l.filters.items ≡ map (condition_of l.schema) (take l.f l.query.filters);
  are : AreConditions (shape_of l.schema) (map condition_view l.filters.items);
}

use Rattle.std.proofs.Common.{length, map, ap, ◌∙◌, arith}
use Rattle.std.specs.Prelude.{slice_index}
use Rattle.tb_model.specs.RowMajor.{product}
use Rattle.tb_grid.specs.declared.products.TheConstants.{MOST_CELLS}
use Rattle.tb_plan.specs.Plans.{place_count, uses, up_to}
use Rattle.tb_plan.proofs.Sets.{filter-below}
use Rattle.tb_plan.proofs.Parts.{sizes-some, place_count-plan_of}
use Rattle.tb_plan.proofs.plan.Plan.of.Goals as goal

pub places_from-places-requires-clause-some : goal.places_from-places-requires-clause-some
places_from-places-requires-clause-some c = rw (c.deref.ensures.value, c.in_ok-sizes.ensures.sizes) (sizes-some _ _ _ c.sizes.ensures.plan.dimensions)

pub cube_cells-cube_cells-requires : goal.cube_cells-cube_cells-requires
cube_cells-cube_cells-requires c = rw (c.in_ok-vars.ensures, c.shape.ensures) (λ k below. omega (arith, filter-below (uses c.in_ok-axes.axes) 0 (length c.in_ok-axes.axes.shape) k below))

pub invariant_of-result : goal.invariant_of-result
invariant_of-result c = record {
  plan_is = c.sizes.ensures.plan;
  sizes_are = c.in_ok-sizes.ensures.sizes;
  some = rw c.in_ok-sizes.ensures.sizes (sizes-some _ _ _ c.sizes.ensures.plan.dimensions);
  vars_are = c.in_ok-vars.ensures;
  steps_are = c.in_ok-steps.ensures;
  cube_is = c.cube_cells-cube_cells.ensures ∙ ap (λ s. up_to MOST_CELLS (product (map (slice_index s) c.in_ok-vars.vars))) c.shape.ensures ∙ ap (λ vs. up_to MOST_CELLS (product (map (slice_index c.in_ok-axes.axes.shape) vs))) c.in_ok-vars.ensures;
}

pub returns-clause-places : goal.returns-clause-places
returns-clause-places c = ap place_count c.in_ok-axes.ensures ∙ place_count-plan_of c.args.schema.now c.args.query.now

use Rattle.std.proofs.Common.{◌≡◌, ℕ, List, ◌+◌, ◌-◌, ◌<◌, drop, get_or, ap, sym, length, ◌∙◌, arith}
use Rattle.tb_cube.specs.Cubes.{cell_count}
use Rattle.tb_grid.specs.Products.{cells_over}
use Rattle.tb_plan.specs.Steps.{steps_of}
use Rattle.tb_rollup.proofs.Spread.{count_of, suffix-le}
use Rattle.tb_rollup.proofs.steps.last_used.Goals as goal

pub returns : goal.returns
returns c =
    let vars : List ℕ = c.args.cube.now.vars in
    let count : count_of c.args.plan.now vars ≡ length c.args.cube.now.cells = ap (λ (s : List ℕ). cell_count s vars) (sym c.requires.shape) ∙ sym c.cells.ensures.cube.long in
    let some : 0 < count_of c.args.plan.now vars = omega (arith, count, c.requires.some) in
    let part : ℕ = c.used_part-part.result in
    let less = suffix-le c.args.plan.now vars part some in
    let cut : c.cells_over.result ≡ cells_over c.args.plan.now.shape (drop part vars) = c.cells_over.ensures ∙ ap (λ (s : List ℕ). cells_over s (drop part c.vars-2.result.now)) (c.shape.ensures ∙ c.requires.shape) ∙ ap (λ (vs : List ℕ). cells_over c.args.plan.now.shape (drop part vs)) c.vars-2.ensures.vars in
    let run : c.cells_over.result ≡ count_of c.args.plan.now (drop part vars) = omega (arith, cut, less, count, c.cells.ensures.cube.few) in
    let back : part - 1 + 1 ≡ part = omega (arith, c.if-part-eq0.false) in
    record {
      there = omega (arith, c.used_part-part.ensures.within, c.if-part-eq0.false);
      steps_are = c.steps.ensures ∙ ap (steps_of c.args.plan.now) (c.at.ensures ∙ ap (λ (vs : List ℕ). get_or vs (part - 1) 0) c.vars.ensures.vars);
      rest = rw back c.used_part-part.ensures.rest;
      run_is = rw back run;
    }

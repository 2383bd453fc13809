use Rattle.std.proofs.Common.{List, ◌+◌, ◌*◌, ◌%◌, ◌≤◌, length, ap, sym, subst, ◌∙◌, arith}
use Rattle.tb_base.specs.declared.cells.Cell.{Cell}
use Rattle.tb_base.specs.Parts.{part_at, modulus}
use Rattle.tb_rollup.specs.Rolling.{runs_at}
use Rattle.tb_rollup.proofs.Added.{last-runs}
use Rattle.tb_rollup.proofs.walk.roll_last.Goals as goal

pub overflow_mul-from : goal.overflow_mul-from
overflow_mul-from c =
    let runs = last-runs c.args.plan.now c.args.cube.now.vars c.args.last.now.at c.args.last.now.steps.now c.args.last.now.run c.requires.last in
    let whole : (c.args.k + 1) * (length c.args.last.now.steps.now * c.args.last.now.run) ≤ length c.args.cube.now.cells = subst (λ m. (c.args.k + 1) * m ≤ length c.args.cube.now.cells) runs.count c.requires.stands.whole in
    omega (arith, whole, c.requires.stands.small)

pub overflow_mul-from-2 : goal.overflow_mul-from-2
overflow_mul-from-2 c =
    let runs = last-runs c.args.plan.now c.args.cube.now.vars c.args.last.now.at c.args.last.now.steps.now c.args.last.now.run c.requires.last in
    let whole : (c.args.k + 1) * (length c.args.last.now.steps.now * c.args.last.now.run) ≤ length c.args.cube.now.cells = subst (λ m. (c.args.k + 1) * m ≤ length c.args.cube.now.cells) runs.count c.requires.stands.whole in
    omega (arith, whole, c.requires.stands.small)

pub add_runs-requires-clause-inside : goal.add_runs-requires-clause-inside
add_runs-requires-clause-inside c =
    let runs = last-runs c.args.plan.now c.args.cube.now.vars c.args.last.now.at c.args.last.now.steps.now c.args.last.now.run c.requires.last in
    let whole : (c.args.k + 1) * (length c.args.last.now.steps.now * c.args.last.now.run) ≤ length c.args.cube.now.cells = subst (λ m. (c.args.k + 1) * m ≤ length c.args.cube.now.cells) runs.count c.requires.stands.whole in
    rw c.as_slice.ensures.cells (omega (arith, whole))

pub returns : goal.returns
returns c = λ p i below.
    let runs = last-runs c.args.plan.now c.args.cube.now.vars c.args.last.now.at c.args.last.now.steps.now c.args.last.now.run c.requires.last in
    c.add_runs.ensures p i below
    ∙ ap (λ (all : List Cell). (part_at p c.args.cells.now i + runs_at (part_at p all) (c.args.k * (length c.args.last.now.steps.now * c.args.last.now.run)) c.args.last.now.steps.now c.args.last.now.run c.args.base i) % modulus p) c.as_slice.ensures.cells
    ∙ ap (λ x. (part_at p c.args.cells.now i + x) % modulus p) (sym (runs.adds (part_at p c.args.cube.now.cells) c.args.k c.args.base i))

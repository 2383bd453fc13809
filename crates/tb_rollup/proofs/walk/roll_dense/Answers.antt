use Rattle.std.proofs.Common.{◌≡◌, ℕ, List, ◌+◌, ◌%◌, [], ◌∷◌, length, ap, sym, subst, ◌∙◌}
use Rattle.tb_base.specs.declared.cells.Cell.{Cell}
use Rattle.tb_cube.specs.Cubes.{cell_count}
use Rattle.tb_base.specs.Parts.{part_at, modulus}
use Rattle.tb_rollup.specs.Rolling.{runs_at, Stands}
use Rattle.tb_rollup.proofs.Added.{whole-run}
use Rattle.tb_rollup.proofs.Descent.{stands-start}
use Rattle.tb_rollup.proofs.Spread.{count_of}
use Rattle.tb_rollup.proofs.walk.roll_dense.Goals as goal

pub returns-in_default : goal.returns-in_default
returns-in_default c = λ p i below.
    let vars : List ℕ = c.args.cube.now.vars in
    let count : length c.args.cube.now.cells ≡ count_of c.args.plan.now vars = c.cells-long.ensures.cube.long ∙ ap (λ (s : List ℕ). cell_count s vars) c.requires.shape in
    c.add_runs.ensures p i below
    ∙ ap (λ (cells : List Cell). (part_at p c.args.cells.now i + runs_at (part_at p cells) 0 (0 ∷ []) c.cells-long.result 0 i) % modulus p) c.as_slice.ensures.cells
    ∙ ap (λ x. (part_at p c.args.cells.now i + x) % modulus p)
    (sym (whole-run c.args.plan.now vars (part_at p c.args.cube.now.cells) c.cells-long.result i c.in_default.ensures (c.cells-long.ensures.count ∙ count)))

pub roll_last-requires-clause-stands : goal.roll_last-requires-clause-stands
roll_last-requires-clause-stands c =
    let count : length c.args.cube.now.cells ≡ count_of c.args.plan.now c.args.cube.now.vars = c.cells-long.ensures.cube.long ∙ ap (λ (s : List ℕ). cell_count s c.args.cube.now.vars) c.requires.shape in
    subst (λ j. Stands c.args.cube.now c.args.plan.now (length c.args.cells.now) j 0 0) (sym c.if-last-eq0.true)
    (stands-start c.args.cube.now c.args.plan.now (length c.args.cells.now) c.cells-long.ensures.cube c.requires.shape c.requires.full c.requires.some c.requires.few count)

pub roll_from-requires-clause-stands : goal.roll_from-requires-clause-stands
roll_from-requires-clause-stands c =
    let count : length c.args.cube.now.cells ≡ count_of c.args.plan.now c.args.cube.now.vars = c.cells-long.ensures.cube.long ∙ ap (λ (s : List ℕ). cell_count s c.args.cube.now.vars) c.requires.shape in
    stands-start c.args.cube.now c.args.plan.now (length c.args.cells.now) c.cells-long.ensures.cube c.requires.shape c.requires.full c.requires.some c.requires.few count

use Rattle.std.proofs.Common.{◌≡◌, ℕ, List, length, ap, sym, ◌∙◌}
use Rattle.tb_base.specs.Parts.{part_at, modulus}
use Rattle.tb_base.proofs.PartLemmas.{nothing}
use Rattle.tb_cube.specs.Cubes.{cell_count}
use Rattle.tb_rollup.proofs.Spread.{count_of, spread-none}
use Rattle.tb_rollup.proofs.walk.roll.Goals as goal

pub returns-then-cells-eq0 : goal.returns-then-cells-eq0
returns-then-cells-eq0 c = λ p i below.
    let count : count_of c.args.plan.now c.args.cube.now.vars ≡ length c.args.cube.now.cells = ap (λ (s : List ℕ). cell_count s c.args.cube.now.vars) (sym c.requires.shape) ∙ sym c.cells.ensures.cube.long in
    nothing (modulus p) (part_at p c.args.cells.now i) _ (spread-none c.args.plan.now c.args.cube.now.vars (part_at p c.args.cube.now.cells) 0 0 i (count ∙ sym c.cells.ensures.count ∙ c.if-cells-eq0.true))

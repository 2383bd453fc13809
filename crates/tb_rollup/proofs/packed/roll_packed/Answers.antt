use Rattle.std.proofs.Common.{◌≡◌, ℕ, List, ◌+◌, ◌*◌, ◌%◌, [], length, ap, sym, subst, ◌∙◌, arith}
use Rattle.tb_base.specs.Parts.{part_at, modulus}
use Rattle.tb_cube.specs.declared.packing.KeptCell.{KeptCell}
use Rattle.tb_cube.specs.Cubes.{cell_count}
use Rattle.tb_cube.specs.Walks.{kept_spread}
use Rattle.tb_cube.proofs.Kept.{spread-kept}
use Rattle.tb_rollup.specs.Rolling.{forks_of, AreBetween}
use Rattle.tb_rollup.proofs.Spread.{count_of, count-of-forks}
use Rattle.tb_rollup.proofs.ToCome.{all-first, at-start, between-none}
use Rattle.tb_rollup.proofs.packed.roll_packed.Goals as goal

pub walk-requires-clause-stands : goal.walk-requires-clause-stands
walk-requires-clause-stands c =
    let count : length c.args.cube.now.cells ≡ count_of c.args.plan.now c.args.cube.now.vars = c.cells.ensures.cube.long ∙ ap (λ (s : List ℕ). cell_count s c.args.cube.now.vars) c.requires.shape in
    at-start c.args.cube.now c.args.plan.now (length c.args.cells.now) c.args.kept.now c.cells.ensures.cube c.requires.shape c.requires.full c.requires.some c.requires.few count c.requires.kept

pub returns-in-None : goal.returns-in-None
returns-in-None c = λ p i below.
    let count : length c.args.cube.now.cells ≡ count_of c.args.plan.now c.args.cube.now.vars = c.cells.ensures.cube.long ∙ ap (λ (s : List ℕ). cell_count s c.args.cube.now.vars) c.requires.shape in
    c.add_to_first.ensures p i below
    ∙ ap (λ x. (part_at p c.args.cells.now i + x) % modulus p)
    (all-first c.args.plan.now c.args.cube.now.vars p i c.args.kept.now c.in-None.ensures
    ∙ sym (spread-kept (forks_of c.args.plan.now c.args.cube.now.vars) p c.args.cube.now.cells c.args.kept.now i c.requires.kept (count ∙ sym (count-of-forks c.args.plan.now c.args.cube.now.vars))))

pub returns-in-Some : goal.returns-in-Some
returns-in-Some c = λ p i below.
    let count : length c.args.cube.now.cells ≡ count_of c.args.plan.now c.args.cube.now.vars = c.cells.ensures.cube.long ∙ ap (λ (s : List ℕ). cell_count s c.args.cube.now.vars) c.requires.shape in
    let whole : (0 + 1) * count_of c.args.plan.now c.args.cube.now.vars ≡ length c.args.cube.now.cells = omega (arith, count) in
    let left : List KeptCell = c.walk.result.now in
    let none : left ≡ [] = between-none (length c.args.cube.now.cells) (length c.args.cube.now.cells) left (omega arith) (subst (λ m. AreBetween m (length c.args.cube.now.cells) left) whole c.walk.ensures.left) in
    let more : part_at p c.walk.new.cells i ≡ part_at p c.walk.new.cells i + kept_spread (forks_of c.args.plan.now c.args.cube.now.vars) p left i =
    rw none (omega arith) in
    ap (λ x. x % modulus p) more ∙ c.walk.ensures.added p i below
    ∙ ap (λ x. (part_at p c.args.cells.now i + x) % modulus p)
    (sym (spread-kept (forks_of c.args.plan.now c.args.cube.now.vars) p c.args.cube.now.cells c.args.kept.now i c.requires.kept (count ∙ sym (count-of-forks c.args.plan.now c.args.cube.now.vars))))

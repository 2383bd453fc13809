use Rattle.std.proofs.Common.{sym, ◌∙◌, arith}
use Rattle.tb_base.specs.Parts.{part_at, modulus}
use Rattle.tb_base.proofs.PartLemmas.{nothing}
use Rattle.tb_cube.specs.Narrowing.{forks_of}
use Rattle.tb_cube.proofs.Steps.{no-forks, one-cell}
use Rattle.tb_cube.proofs.Walks.{spread-none}
use Rattle.tb_cube.proofs.narrowing.add_cells.Goals as goal

pub returns-then-all-eq0 : goal.returns-then-all-eq0
returns-then-all-eq0 c = λ p i below.
    nothing (modulus p) (part_at p c.args.cells.now i) _ (spread-none (forks_of c.args.steps.now) (part_at p c.args.all.now) 0 0 i (sym c.requires.whole ∙ c.if-all-eq0.true))

pub returns-then-steps-eq0 : goal.returns-then-steps-eq0
returns-then-steps-eq0 c = λ p i below.
    one-cell p c.args.all.now c.args.cells.now i c.add.new.self (forks_of c.args.steps.now) (no-forks c.args.steps.now c.if-steps-eq0.true) (omega (arith, c.if-cells-eq0.false)) (c.add.ensures.parts p)

pub add_from-requires-clause-stands : goal.add_from-requires-clause-stands
add_from-requires-clause-stands c = record {
  whole = omega (arith, c.requires.whole);
  some = omega (arith, c.requires.whole, c.if-all-eq0.false);
  small = c.requires.small;
  low = omega (arith, c.if-cells-eq0.false);
  few = c.requires.few;
}

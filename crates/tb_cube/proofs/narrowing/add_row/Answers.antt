use Rattle.std.proofs.Common.{ℕ, List, ◌+◌, ◌*◌, ◌%◌, ◌<◌, [], length, get_or, refl, ap, sym, ◌∙◌, arith}
use Rattle.tb_base.specs.declared.cells.Cell.{Cell}
use Rattle.tb_base.specs.Cells.{empty_cell}
use Rattle.tb_base.specs.Parts.{part_at, modulus}
use Rattle.tb_base.proofs.PartLemmas.{added-at}
use Rattle.tb_cube.specs.Walks.{Fork}
use Rattle.tb_cube.proofs.Steps.{fork_of}
use Rattle.tb_cube.proofs.Walks.{all-gone, has-room, left-out, one-more, spread-end, sum-added}
use Rattle.tb_cube.proofs.narrowing.add_row.Goals as goal
use Rattle.tb_cube.proofs.narrowing.add_row.Goals.{then-to-cells, else-to-cells}

pub overflow_mul-from : goal.overflow_mul-from
overflow_mul-from c =
    omega (arith, c.requires.small, has-room (fork_of c.args.step) [] (length c.args.all.now) (length c.args.cells.now) c.args.k c.args.base c.requires 0 (omega (arith, c.requires.some)))

pub loop-c-preserved : goal.loop-c-preserved
loop-c-preserved c = λ p i inside.
    let f : ℕ → ℕ = part_at p c.args.all.now in
    let t : Fork = fork_of c.args.step in
    let to : ℕ = c.args.base + c.loop-c.c * c.args.step.stride in
    let from : ℕ = c.args.k * c.args.step.count + c.loop-c.c in
    let before : i < length c.loop-c.cells = omega (arith, inside, c.if-to-cells.auto.cells, c.loop-c.auto.cells) in
    elim c.if-to-cells.branch [
      | then-to-cells w ↦
          one-more t [] (length c.args.all.now) (length c.args.cells.now) c.args.k c.args.base c.requires f (modulus p) i (part_at p c.args.cells.now i)
          c.loop-c.c (part_at p c.loop-c.cells i) (part_at p c.if-to-cells.cells i) (c.loop-c.invariant p i before)
          (ap (λ (cells : List Cell). part_at p cells i % modulus p) w.cells-is
          ∙ added-at p c.loop-c.cells to i w.add.new.self (f from) w.if-to-cells.true
          (sum-added p (get_or c.loop-c.cells to empty_cell) w.add.new.self (get_or c.args.all.now from empty_cell) (f from) (w.add.ensures.parts p) refl)
          ∙ ap (λ s. (part_at p c.loop-c.cells i + s) % modulus p) (sym (spread-end f from to i)))
      | else-to-cells w ↦
          ap (λ (cells : List Cell). part_at p cells i % modulus p) w.cells-is
          ∙ left-out t [] (length c.args.all.now) (length c.args.cells.now) c.args.k c.args.base c.requires f (modulus p) i (part_at p c.args.cells.now i)
          c.loop-c.c (part_at p c.loop-c.cells i) (omega (arith, before, w.if-to-cells.false)) (c.loop-c.invariant p i before)
    ]

pub returns : goal.returns
returns c = λ p i inside.
    all-gone (fork_of c.args.step) [] (length c.args.all.now) (length c.args.cells.now) c.args.k c.args.base c.requires (part_at p c.args.all.now) (modulus p) i (part_at p c.args.cells.now i)
    c.loop-c.c (part_at p c.loop-c.cells i) (omega (arith, c.loop-c-test.false, c.loop-c.auto.c-end)) (c.loop-c.invariant p i (omega (arith, inside, c.loop-c.auto.cells)))

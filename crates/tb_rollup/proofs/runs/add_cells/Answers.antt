use Rattle.std.proofs.Common.{ℕ, List, ◌+◌, ◌*◌, ◌%◌, ◌<◌, length, get_or, cond, ap, ◌∙◌, arith}
use Rattle.std.specs.Prelude.{◌==◌, slice_index}
use Rattle.tb_base.specs.declared.cells.Cell.{Cell}
use Rattle.tb_base.specs.Cells.{empty_cell}
use Rattle.tb_base.specs.Parts.{part_at, modulus}
use Rattle.tb_rollup.specs.Rolling.{run_sum}
use Rattle.tb_base.proofs.PartLemmas.{added-at, past-at}
use Rattle.tb_cube.proofs.Walks.{sum-added}
use Rattle.tb_rollup.proofs.Added.{one-run, run-one}
use Rattle.tb_rollup.proofs.runs.add_cells.Goals as goal
use Rattle.tb_rollup.proofs.runs.add_cells.Goals.{then-to-cells, else-to-cells}

pub loop-c-preserved : goal.loop-c-preserved
loop-c-preserved c = λ p i below.
    let f : ℕ → ℕ = part_at p c.args.all.now in
    let to : ℕ → ℕ = λ e. c.args.base + slice_index c.args.steps.now e in
    let sum : ℕ → ℕ = λ e. run_sum f (c.args.from + e * 1) 1 in
    let before : i < length c.loop-c.cells = omega (arith, below, c.if-to-cells.auto.cells, c.loop-c.auto.cells) in
    one-run p (λ e. cond (to e == i) (sum e) 0) (part_at p c.args.cells.now i) (part_at p c.loop-c.cells i) (part_at p c.if-to-cells.cells i) c.loop-c.c (c.loop-c.invariant p i before)
    (elim c.if-to-cells.branch [
      | then-to-cells w ↦
          ap (λ (cells : List Cell). part_at p cells i % modulus p) w.cells-is
          ∙ added-at p c.loop-c.cells (to c.loop-c.c) i w.add.new.self (sum c.loop-c.c) w.if-to-cells.true
          (sum-added p (get_or c.loop-c.cells (to c.loop-c.c) empty_cell) w.add.new.self
          (get_or c.args.all.now (c.args.from + c.loop-c.c) empty_cell) (sum c.loop-c.c) (w.add.ensures.parts p)
          (ap (λ x. x % modulus p) (run-one f c.args.from c.loop-c.c)))
      | else-to-cells w ↦
          ap (λ (cells : List Cell). part_at p cells i % modulus p) w.cells-is
          ∙ past-at p c.loop-c.cells (to c.loop-c.c) i (sum c.loop-c.c) (omega (arith, before, w.if-to-cells.false))
    ])

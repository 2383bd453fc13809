use Rattle.std.proofs.Common.{◌≡◌, ℕ, List, true, false, ◌%◌, ◌<◌, length, map, ap, sym, ◌∙◌, arith}
use Rattle.std.specs.Prelude.{slice_index}
use Rattle.std.proofs.Math.Nat.{mod-mod}
use Rattle.tb_base.specs.declared.cells.Cell.{Cell}
use Rattle.tb_base.specs.Cells.{empty_cell}
use Rattle.tb_model.specs.RowMajor.{product}
use Rattle.tb_base.specs.Parts.{Part, part, part_at, modulus}
use Rattle.tb_grid.proofs.Factors.{product-some}
use Rattle.tb_plan.specs.Plans.{sizes}
use Rattle.tb_plan.proofs.Parts.{sizes-some}
use Rattle.tb_rollup.proofs.Spread.{count_of}
use Rattle.tb_base.proofs.PartLemmas.{empty-part, reduced-below}
use Rattle.tb_rollup.proofs.Tables.{counted-plan, plain-part, rolled-plan, total-part}
use Rattle.tb_rollup.proofs.walk.roll_into.Goals as goal
use Rattle.tb_rollup.proofs.walk.roll_into.Goals.{then-totals, else-totals}

pub roll-requires-clause-some : goal.roll-requires-clause-some
roll-requires-clause-some c =
    rw c.requires.long (product-some (sizes c.args.plan.now) (sizes-some c.args.plan.now.totals c.args.plan.now.shape c.args.plan.now.dimensions c.cells-2.ensures.plan.dimensions))

pub returns-clause-rolled : goal.returns-clause-rolled
returns-clause-rolled c =
    let long : length c.reduce_keys.new.cells ≡ length c.args.cells.now = omega (arith, c.reduce_keys.auto.cells, c.if-totals.auto.cells, c.roll.auto.cells) in
    let count : length c.args.cube.now.cells ≡ count_of c.args.plan.now c.args.cube.now.vars = c.cells.ensures.cube.long ∙ ap (λ (s : List ℕ). product (map (slice_index s) c.args.cube.now.vars)) c.requires.shape in
    let none : (p : Part) (i : ℕ) → i < length c.args.cells.now → part_at p c.args.cells.now i ≡ 0 = λ p i below. ap (part p) (c.requires.empty i empty_cell below) ∙ empty-part p in
    rolled-plan c.args.plan.now c.args.cube.now c.reduce_keys.new.cells c.cells-2.ensures.plan c.cells.ensures.cube c.requires.shape c.requires.among c.requires.few (long ∙ c.requires.long)
    (λ p i below.
    let ns : List ℕ = sizes c.args.plan.now in
    let before : i < length c.args.cells.now = omega (arith, below, long) in
    let low : i < product ns = omega (arith, before, c.requires.long) in
    let here : i < length c.if-totals.cells = omega (arith, below, c.reduce_keys.auto.cells) in
    let mid : ℕ = part_at p c.if-totals.cells i in
    let small : mid % modulus p < modulus p = reduced-below p mid in
    c.reduce_keys.ensures p i here ∙ elim c.if-totals.branch [
      | then-totals w ↦
          let totals : c.args.plan.now.totals ≡ true = sym c.totals.ensures ∙ w.if-totals.true in
          let within : (j : ℕ) → j < product ns → j < length c.args.cells.now = λ j h. omega (arith, h, c.requires.long) in
          let there : i < length c.roll.new.cells = omega (arith, before, c.roll.auto.cells) in
          total-part c.args.plan.now c.args.plan.now.totals ns c.args.cube.now.vars p c.args.cube.now.cells count i low
          (mid % modulus p) (part_at p c.args.cells.now) (part_at p c.roll.new.cells) totals
          (λ j h. none p j (within j h)) (λ j h. c.roll.ensures p j (within j h))
          (mod-mod mid (modulus p) ∙ ap (λ (cells : List Cell). part_at p cells i % modulus p) w.cells-is ∙ w.add_totals.ensures p i there) small
      | else-totals w ↦
          let totals : c.args.plan.now.totals ≡ false = sym c.totals.ensures ∙ w.if-totals.false in
          plain-part c.args.plan.now c.args.plan.now.totals ns c.args.cube.now.vars p c.args.cube.now.cells count i low
          (part_at p c.args.cells.now i) (mid % modulus p) totals
          (none p i before) (mod-mod mid (modulus p) ∙ ap (λ (cells : List Cell). part_at p cells i % modulus p) w.cells-is ∙ c.roll.ensures p i before) small
    ])

pub returns-clause-counted : goal.returns-clause-counted
returns-clause-counted c = λ schema query records is fit held.
    counted-plan c.args.plan.now c.args.cube.now c.reduce_keys.new.cells c.cells-2.ensures.plan c.cells.ensures.cube c.requires.shape c.requires.among (returns-clause-rolled c) schema query records is held fit

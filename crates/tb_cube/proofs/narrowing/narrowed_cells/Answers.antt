use Rattle.std.proofs.Common.{◌≡◌, List, ◌<◌, length, replicate, ap, ◌∙◌, arith}
use Rattle.std.proofs.lemmas.List.{length-replicate, with_items_is}
use Rattle.tb_base.specs.declared.cells.Cell.{Cell}
use Rattle.tb_base.specs.Cells.{empty_cell}
use Rattle.tb_base.specs.Parts.{part_at}
use Rattle.tb_cube.proofs.Narrowed.{all-empty}
use Rattle.tb_cube.proofs.narrowing.narrowed_cells.Goals as goal

pub fill-requires-clause-few : goal.fill-requires-clause-few
fill-requires-clause-few c =
    let empty : c.in_ok-cells.cells.items ≡ replicate c.args.long empty_cell = c.in_ok-cells.ensures.items_if_clones_equal (λ y h. h) ∙ ap (replicate c.args.long) c.empty.ensures in
    omega (arith, ap length empty, length-replicate c.args.long empty_cell, ap length c.deref_mut.ensures.value, c.requires.few)

pub fill-requires-clause-empty : goal.fill-requires-clause-empty
fill-requires-clause-empty c =
    let empty : c.in_ok-cells.cells.items ≡ replicate c.args.long empty_cell = c.in_ok-cells.ensures.items_if_clones_equal (λ y h. h) ∙ ap (replicate c.args.long) c.empty.ensures in
    rw c.deref_mut.ensures.value (all-empty c.in_ok-cells.cells.items c.args.long empty)

pub returns-clause-many : goal.returns-clause-many
returns-clause-many c =
    let empty : c.in_ok-cells.cells.items ≡ replicate c.args.long empty_cell = c.in_ok-cells.ensures.items_if_clones_equal (λ y h. h) ∙ ap (replicate c.args.long) c.empty.ensures in
    let items = with_items_is c.in_ok-cells.cells c.fill.new.cells (omega (arith, c.fill.auto.cells, c.deref_mut.ensures.len)) in
    omega (arith, ap length items, c.fill.auto.cells, ap length c.deref_mut.ensures.value, ap length empty, length-replicate c.args.long empty_cell)

pub returns-clause-sums : goal.returns-clause-sums
returns-clause-sums c = λ p i below.
    let empty : c.in_ok-cells.cells.items ≡ replicate c.args.long empty_cell = c.in_ok-cells.ensures.items_if_clones_equal (λ y h. h) ∙ ap (replicate c.args.long) c.empty.ensures in
    let items = with_items_is c.in_ok-cells.cells c.fill.new.cells (omega (arith, c.fill.auto.cells, c.deref_mut.ensures.len)) in
    let inside : i < length c.deref_mut.result.now = omega (arith, below, ap length c.deref_mut.ensures.value, ap length empty, length-replicate c.args.long empty_cell) in
    ap (λ (cells : List Cell). part_at p cells i) items
    ∙ c.fill.ensures p i inside

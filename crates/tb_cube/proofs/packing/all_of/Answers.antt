use Rattle.std.proofs.Common.{◌≡◌, length, replicate, ap, ◌∙◌, arith}
use Rattle.std.proofs.lemmas.List.{length-replicate, with_items_is}
use Rattle.tb_base.specs.Cells.{empty_cell}
use Rattle.tb_cube.specs.Packing.{put_at}
use Rattle.tb_cube.proofs.Packed.{places-below, put-back}
use Rattle.tb_cube.proofs.packing.all_of.Goals as goal

pub put_back-requires : goal.put_back-requires
put_back-requires c =
    let empty : c.in_ok-cells.cells.items ≡ replicate c.args.long empty_cell = c.in_ok-cells.ensures.items_if_clones_equal (λ y h. h) ∙ ap (replicate c.args.long) c.empty.ensures in
    places-below c.args.long c.args.kept.now c.deref_mut.result.now c.requires (ap length (c.deref_mut.ensures.value ∙ empty) ∙ length-replicate c.args.long empty_cell)

pub returns : goal.returns
returns c =
    let empty : c.in_ok-cells.cells.items ≡ replicate c.args.long empty_cell = c.in_ok-cells.ensures.items_if_clones_equal (λ y h. h) ∙ ap (replicate c.args.long) c.empty.ensures in
    with_items_is c.in_ok-cells.cells c.put_back.new.cells (omega (arith, c.put_back.auto.cells, c.deref_mut.ensures.len))
    ∙ c.put_back.ensures ∙ ap (put_at c.args.kept.now) (c.deref_mut.ensures.value ∙ empty)
    ∙ put-back c.args.long c.args.kept.now c.requires

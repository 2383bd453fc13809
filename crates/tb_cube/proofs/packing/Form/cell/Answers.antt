use Rattle.std.proofs.Common.{◌≡◌, ℕ, ◌<◌, List, length, get_or, subst, ap, sym, ◌∙◌, arith}
use Rattle.std.proofs.lemmas.List.FromFn.{length-map-range_with_len, get_or-map-range_with_len}
use Rattle.tb_base.specs.declared.cells.Cell.{Cell}
use Rattle.tb_base.specs.Cells.{empty_cell}
use Rattle.tb_cube.specs.declared.packing.KeptCell.{KeptCell}
use Rattle.tb_cube.specs.Forms.{cells_of, AreKept}
use Rattle.tb_cube.specs.Packing.{all_cells, cell_at}
use Rattle.tb_cube.proofs.Packed.{kept-ascend}
use Rattle.tb_cube.proofs.packing.Form.cell.Goals as goal

pub cell_in-requires : goal.cell_in-requires
cell_in-requires c =
    let all = subst AreKept c.in-Packed.is c.requires.kept in
    rw c.deref.ensures.value (kept-ascend c.in-Packed.kept.items (all_cells c.in-Packed.long c.in-Packed.kept.items) all)

pub returns-in-Packed : goal.returns-in-Packed
returns-in-Packed c =
    let ks : List KeptCell = c.in-Packed.kept.items in
    let long : ℕ = c.in-Packed.long in
    let seen : cells_of c.args.self.now ≡ all_cells long ks = ap cells_of c.in-Packed.is in
    let low : c.args.place < long = omega (arith, c.requires.there, ap length seen, length-map-range_with_len (cell_at ks) 0 long) in
    c.cell_in.ensures ∙ ap (λ (xs : List KeptCell). cell_at xs c.args.place) c.deref.ensures.value
    ∙ sym (get_or-map-range_with_len (cell_at ks) 0 long c.args.place c.args.place empty_cell low (omega arith))
    ∙ sym (ap (λ (cells : List Cell). get_or cells c.args.place empty_cell) seen)

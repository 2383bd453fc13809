use Rattle.std.proofs.Common.{◌≡◌, length, ap, ◌∙◌, arith}
use Rattle.std.specs.Vec.{with_items}
use Rattle.std.proofs.lemmas.List.{with_items_is}
use Rattle.tb_base.proofs.ColumnLemmas.{beside-removed, taken-at}
use Rattle.tb_base.proofs.piece.Piece.take_out.Goals as goal

pub invariant_of-self : goal.invariant_of-self
invariant_of-self c =
    let old = c.self.inside.columns in
    let new = c.remove_all.new.columns in
    let back : (with_items old new).items ≡ new = with_items_is old new (omega (arith, c.remove_all.auto.columns, c.deref_mut.ensures.len)) in
    let long : length new ≡ length old.items = c.remove_all.auto.columns ∙ ap length c.deref_mut.ensures.value in
    let changed = rw c.deref_mut.ensures.value at c.remove_all.ensures in
    rw (back, c.remove-2.ensures.items)
    (beside-removed c.self.inside.keys.items c.remove.new.self.items old.items new c.self.inside.records.items c.self.invariant long c.args.place c.remove.ensures.items changed)

pub returns-clause-taken : goal.returns-clause-taken
returns-clause-taken c = taken-at c.self.inside.records.items c.args.self.now c.args.place c.remove-2.result c.self.view_is c.requires c.remove-2.ensures.value

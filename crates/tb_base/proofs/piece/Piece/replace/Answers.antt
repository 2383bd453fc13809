use Rattle.std.proofs.Common.{◌≡◌, length, set, ap, ◌∙◌, refl, arith}
use Rattle.std.specs.Vec.{with_items}
use Rattle.std.proofs.lemmas.List.{with_items_is}
use Rattle.tb_base.proofs.ColumnLemmas.{beside-replaced, taken-at}
use Rattle.tb_base.proofs.piece.Piece.replace.Goals as goal

pub invariant_of-self : goal.invariant_of-self
invariant_of-self c =
    let old = c.self.inside.columns in
    let new = c.replace_all.new.columns in
    let keys = c.self.inside.keys.items in
    let back : (with_items old new).items ≡ new = with_items_is old new (omega (arith, c.replace_all.auto.columns, c.deref_mut.ensures.len)) in
    let long : length new ≡ length old.items = c.replace_all.auto.columns ∙ ap length c.deref_mut.ensures.value in
    let changed = rw c.deref_mut.ensures.value at c.replace_all.ensures in
    rw (back, c.replace.ensures.after)
    (beside-replaced keys (set keys c.args.place c.args.new.key) old.items new c.self.inside.records.items c.self.invariant long c.args.place c.args.new refl changed)

pub returns-clause-taken : goal.returns-clause-taken
returns-clause-taken c =
    rw c.replace.ensures.value
    (taken-at c.self.inside.records.items c.args.self.now c.args.place c.index_mut-2.result.now c.self.view_is c.requires c.index_mut-2.ensures.value)

use Rattle.std.proofs.Common.{refl}
use Rattle.std.specs.Prelude.{flat_map}
use Rattle.tb_records.proofs.Joining.{people-joined}
use Rattle.tb_records.proofs.parts.people_in_parts.Goals as goal

pub returns-then-branch-clause-ok : goal.returns-then-branch-clause-ok
returns-then-branch-clause-ok g c =
    let cut = c.in-Some.cut in
    let file = rw c.in-Some.is at c.in_ok-cut.ensures.file in
    let each = rw c.deref.ensures.value at c.in_ok-lists.ensures in
    let stand = rw c.persons.ensures.limit at (rw c.if-branch.true at c.in_ok-may_stand.ensures) in
    people-joined c.args.schema.now c.args.file.now cut.header cut.parts.items c.in_ok-lists.lists.items (flat_map (λ list. list.items) c.in_ok-lists.lists.items) file each refl (rw c.deref-2.ensures.value at stand)

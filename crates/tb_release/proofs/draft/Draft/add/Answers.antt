use Rattle.std.proofs.Common.{◌+◌, refl}
use Rattle.tb_release.specs.declared.draft.Draft.{Draft}
use Rattle.tb_release.specs.Drafts.{release_of}
use Rattle.tb_release.proofs.FewRecords.{room_for_one}
use Rattle.tb_release.proofs.Made.{add_made, room_for_page}
use Rattle.tb_release.proofs.draft.Draft.add.Goals as goal

pub add-requires-clause-room : goal.add-requires-clause-room
add-requires-clause-room c = room_for_page c.args.self.now c.requires.draft c.requires.room

pub add-requires-clause-few : goal.add-requires-clause-few
add-requires-clause-few c = room_for_one (release_of c.args.self.now) c.args.person c.args.key c.requires.draft.sound c.requires.possible

pub returns : goal.returns
returns c =
    let new : Draft = record { register = c.add.new.self; most = c.args.self.now.most; number = c.args.self.now.number; changes = c.args.self.now.changes; edits = c.args.self.now.edits; made = c.args.self.now.made + 1; rules = c.args.self.now.rules } in
    add_made c.args.self.now new c.args.person c.args.key c.args.codes.now c.in_ok-copy.field-0 c.in_ok-after.after c.requires.draft c.requires.possible
    c.in_ok-copy.ensures c.in_ok-after.ensures c.in_ok-add.ensures refl refl refl refl refl refl

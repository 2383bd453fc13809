use Rattle.std.proofs.Common.{◌+◌, refl}
use Rattle.tb_release.specs.declared.draft.Draft.{Draft}
use Rattle.tb_release.proofs.Made.{drop_made}
use Rattle.tb_release.proofs.draft.Draft.take_out.Goals as goal

pub returns : goal.returns
returns c =
    let new : Draft = record { register = c.take_out.new.self; most = c.args.self.now.most; number = c.args.self.now.number; changes = c.args.self.now.changes; edits = c.args.self.now.edits; made = c.args.self.now.made + 1; rules = c.args.self.now.rules } in
    drop_made c.args.self.now new c.args.person c.in_ok-before.before c.requires.draft c.requires.possible c.in_ok-before.ensures refl refl refl refl refl refl

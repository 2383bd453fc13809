use Rattle.std.proofs.Common.{◌+◌, ◌∙◌, ap, add_assoc, arith}
use Rattle.std.specs.List.{slice_range}
use Rattle.tb_io.proofs.RoomLemmas.{part-after}
use Rattle.tb_io.proofs.room.Room.cut.Goals as goal

pub returns-clause-ahead : goal.returns-clause-ahead
returns-clause-ahead c =
    let same = part-after c.self.inside.bytes.items c.args.self.now.ahead c.self.inside.ahead.start c.self.inside.ahead.end (c.args.len + c.args.skip) (ap (λ r. r.ahead) c.self.view_is) (omega arith) c.requires in
    ap (λ k. slice_range c.self.inside.bytes.items k c.self.inside.ahead.end) (add_assoc c.self.inside.ahead.start c.args.len c.args.skip) ∙ same

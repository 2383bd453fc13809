use Rattle.std.proofs.Common.{◌+◌, ◌∙◌, ap, arith}
use Rattle.std.specs.List.{slice_range}
use Rattle.tb_io.proofs.RoomLemmas.{feeds-none, feeds-some, part-after}
use Rattle.tb_io.proofs.room.Room.line_feed.Goals as goal

pub returns-in-Some-clause-feed : goal.returns-in-Some-clause-feed
returns-in-Some-clause-feed c =
    let after = part-after c.self.inside.bytes.items c.args.self.now.ahead c.self.inside.ahead.start c.self.inside.ahead.end c.args.known (ap (λ r. r.ahead) c.self.view_is) (omega arith) c.requires.within in
    feeds-some c.args.self.now.ahead (slice_range c.deref.result.now (c.self.inside.ahead.start + c.args.known) c.self.inside.ahead.end) c.args.known c.in-Some.i
    (ap (λ bs. slice_range bs (c.self.inside.ahead.start + c.args.known) c.self.inside.ahead.end) c.deref.ensures.value ∙ after)
    c.requires.within c.requires.known c.in-Some.ensures

pub returns-in-None-clause-feed : goal.returns-in-None-clause-feed
returns-in-None-clause-feed c =
    let after = part-after c.self.inside.bytes.items c.args.self.now.ahead c.self.inside.ahead.start c.self.inside.ahead.end c.args.known (ap (λ r. r.ahead) c.self.view_is) (omega arith) c.requires.within in
    feeds-none c.args.self.now.ahead (slice_range c.deref.result.now (c.self.inside.ahead.start + c.args.known) c.self.inside.ahead.end) c.args.known
    (ap (λ bs. slice_range bs (c.self.inside.ahead.start + c.args.known) c.self.inside.ahead.end) c.deref.ensures.value ∙ after)
    c.requires.known c.in-None.ensures

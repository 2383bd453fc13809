use Rattle.tb_io.proofs.RoomLemmas.{fills}
use Rattle.tb_io.proofs.room.fill_behind.Goals as goal

pub returns-clause-fills : goal.returns-clause-fills
returns-clause-fills g c =
    rw c.given_by.ensures
    (fills c.read_at-read.result (g.S.Source.left c.args.source.now) (g.S.Source.left c.read_at-read.new.source) _ c.with_room-at.new.bytes c.read_at-read.new.bytes c.with_room-at.result.start c.with_room-at.result.end
    c.with_room-at.ensures.order c.with_room-at.ensures.same c.read_at-read.ensures.before c.read_at-read.ensures.reads)

use Rattle.std.proofs.Common.{arith, refl}
use Rattle.tb_io.proofs.Copying.{nothing-left, piece-left}
use Rattle.tb_io.proofs.unread.Unread.give.Goals as goal

pub returns-then-n-eq0-clause-reads : goal.returns-then-n-eq0-clause-reads
returns-then-n-eq0-clause-reads c = (
  nothing-left c.self.inside.bytes.items c.args.self.now c.self.inside.next c.self.view_is (omega arith),
  refl,
)

pub returns-clause-reads : goal.returns-clause-reads
returns-clause-reads c = (
  omega arith,
  omega arith,
  piece-left c.self.inside.bytes.items c.deref.result.now c.args.self.now c.copy_piece.new.buf c.self.inside.next c.min-n.result c.self.view_is c.deref.ensures.value c.copy_piece.ensures,
)

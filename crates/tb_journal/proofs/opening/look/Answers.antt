use Rattle.std.proofs.Common.{refl}
use Rattle.tb_disk.proofs.Quietly.{quiet-call}
use Rattle.tb_journal.proofs.Beginning.{begins-after, begins-not}
use Rattle.tb_journal.proofs.opening.look.Goals as goal

pub returns-in-Is-clause-begins : goal.returns-in-Is-clause-begins
returns-in-Is-clause-begins g c =
    begins-after g.D.Disk.content g.D.Disk.may_leave g.D.Disk.moment g.D.Disk.left_since c.args.disk.now c.size.new.self c.start.new.disk _
    (quiet-call g.D.Disk.content g.D.Disk.may_leave g.D.Disk.moment g.D.Disk.left_since c.args.disk.now c.size.new.self g.met.D.Disk.counts_now (g.met.D.Disk.only_now c.args.disk.now) c.size.ensures.same c.size.ensures.stop c.size.ensures.time) c.start.ensures.begins

pub returns-in-Failed-clause-begins : goal.returns-in-Failed-clause-begins
returns-in-Failed-clause-begins g c =
    begins-not g.D.Disk.content g.D.Disk.may_leave g.D.Disk.moment g.D.Disk.left_since c.args.disk.now c.size.new.self _ refl
    (quiet-call g.D.Disk.content g.D.Disk.may_leave g.D.Disk.moment g.D.Disk.left_since c.args.disk.now c.size.new.self g.met.D.Disk.counts_now (g.met.D.Disk.only_now c.args.disk.now) c.size.ensures.same c.size.ensures.stop c.size.ensures.time)

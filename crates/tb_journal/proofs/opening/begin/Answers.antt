use Rattle.std.proofs.Common.{refl}
use Rattle.tb_disk.proofs.Quietly.{quiet-call}
use Rattle.tb_journal.proofs.Beginning.{begins-after, begins-not}
use Rattle.tb_journal.proofs.opening.begin.Goals as goal

pub returns-in-All-clause-begins : goal.returns-in-All-clause-begins
returns-in-All-clause-begins g c =
    begins-after g.D.Disk.content g.D.Disk.may_leave g.D.Disk.moment g.D.Disk.left_since c.args.disk.now c.sync.new.self c.look.new.disk _
    (quiet-call g.D.Disk.content g.D.Disk.may_leave g.D.Disk.moment g.D.Disk.left_since c.args.disk.now c.sync.new.self g.met.D.Disk.counts_now (g.met.D.Disk.only_now c.args.disk.now) c.sync.ensures.same c.sync.ensures.stop c.sync.ensures.time) c.look.ensures.begins

pub returns-in-Failed-clause-begins : goal.returns-in-Failed-clause-begins
returns-in-Failed-clause-begins g c =
    begins-not g.D.Disk.content g.D.Disk.may_leave g.D.Disk.moment g.D.Disk.left_since c.args.disk.now c.sync.new.self _ refl
    (quiet-call g.D.Disk.content g.D.Disk.may_leave g.D.Disk.moment g.D.Disk.left_since c.args.disk.now c.sync.new.self g.met.D.Disk.counts_now (g.met.D.Disk.only_now c.args.disk.now) c.sync.ensures.same c.sync.ensures.stop c.sync.ensures.time)

use Rattle.tb_keep.proofs.Recovering.{SoFar}
use Rattle.tb_keep.proofs.playing.play.Given as goal

abbrev pub invariant-loop-read : goal.invariant-loop-read
invariant-loop-read g l =
    SoFar g.D.Disk.content g.D.Disk.may_leave g.D.Disk.moment g.D.Disk.left_since g.D.Disk.faults g.D.Disk.attached
    g.B.Named.name l.setup l.initial.custodian l.custodian l.initial.disk l.disk l.journal l.read

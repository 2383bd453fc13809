use Rattle.std.proofs.Common.{ap, refl, inl, subst, arith}
use Rattle.tb_board.specs.Starts.{StartValue}
use Rattle.tb_model.specs.Releases.{ReleaseValue}
use Rattle.tb_serve.specs.Serves.{output}
use Rattle.tb_top.specs.HostOutputs.{IsHostAnswered}
use Rattle.tb_top.specs.KeepOutputs.{disk_seen}
use Rattle.tb_top.specs.Asking.{census_over}
use Rattle.tb_endings.specs.declared.endings.End.TheVariants as end
use Rattle.tb_top.proofs.Boards.{ended-so}
use Rattle.tb_top.proofs.host.host_from.Goals as goal

pub returns-in-Ok : goal.returns-in-Ok
returns-in-Ok g c =
    let out = output (g.O.Sink.taken c.args.out.now) (g.O.Sink.taken c.host_opened.new.out) (g.O.Sink.faults c.args.out.now)
    (g.O.Sink.faults c.host_opened.new.out) in
    let disk = disk_seen g.D.Disk.named g.D.Disk.could_leave g.D.Disk.attached g.D.Disk.content g.D.Disk.may_leave g.D.Disk.moment g.D.Disk.left_since g.D.Disk.faults c.args.disk.now c.host_opened.new.disk in
    subst (λ (base : ReleaseValue). IsHostAnswered (census_over c.args.over.now.setup.now base) c.args.hosted.now.service.now c.args.hosted.now.journal.now c.args.net.now
    c.host_opened.new.net c.host_opened.result out disk) (ap (λ (start : StartValue). start.base) c.in-Ok.ensures) c.host_opened.ensures

pub returns-in-Err : goal.returns-in-Err
returns-in-Err g c =
    (omega (arith, c.requires.there), refl, inl (refl, (c.requires.attached, refl), ended-so end.Memory _ _ _ _ _ c.end_by.ensures.ended))

use Rattle.std.proofs.Common.{ap, refl, inl, inr, subst}
use Rattle.tb_board.specs.Starts.{StartValue}
use Rattle.tb_model.specs.Releases.{ReleaseValue}
use Rattle.tb_serve.specs.Serves.{output}
use Rattle.tb_top.specs.KeepOutputs.{IsKeepRun, disk_seen, kept_seen}
use Rattle.tb_top.specs.Asking.{census_over}
use Rattle.tb_endings.specs.declared.endings.End.TheVariants as end
use Rattle.tb_top.proofs.Boards.{ended-so}
use Rattle.tb_top.proofs.keep.keep_from.Goals as goal

pub returns-in-Ok : goal.returns-in-Ok
returns-in-Ok g c =
    let out = output (g.O.Sink.taken c.args.out.now) (g.O.Sink.taken c.keep_opened.new.out) (g.O.Sink.faults c.args.out.now)
    (g.O.Sink.faults c.keep_opened.new.out) in
    let disk = disk_seen g.D.Disk.named g.D.Disk.could_leave g.D.Disk.attached g.D.Disk.content g.D.Disk.may_leave g.D.Disk.moment g.D.Disk.left_since g.D.Disk.faults c.args.disk.now c.keep_opened.new.disk in
    inr (subst (λ (base : ReleaseValue). IsKeepRun (census_over c.args.over.now.setup.now base) c.args.kept.now.script.now c.keep_opened.result out
    (kept_seen disk c.args.kept.now.journal.now c.args.steps.now c.keep_opened.new.steps out)) (ap (λ (start : StartValue). start.base) c.in-Ok.ensures) c.keep_opened.ensures)

pub returns-in-Err : goal.returns-in-Err
returns-in-Err g c = inl (refl, (c.requires.attached, refl), ended-so end.Memory _ _ _ _ _ c.end_by.ensures.ended)

use Rattle.std.proofs.Common.{rules, ◌∙◌, ap}
use Rattle.tb_disk.proofs.Past.{past-as}
use Rattle.tb_session.specs.declared.custody.Custody.{Custody}
use Rattle.tb_keep.proofs.JournalRunning.{lines-kept}
use Rattle.tb_keep.proofs.journal_run.run_played.Goals as goal

pub returns-clause-run : goal.returns-clause-run
returns-clause-run g c =
    let (base, into, reaches) = c.run_kept-end.ensures.run in
    lines-kept g.D.Disk.content g.D.Disk.may_leave g.D.Disk.moment g.D.Disk.left_since g.D.Disk.faults c.args.disk.now _ _ (g.met.D.Disk.only_now c.args.disk.now) (search rules) _ c.args.setting.now.setup.now c.args.script.now.lines c.run_kept-end.result.0 c.args.custodian
    c.new-party.result.custody.party (ap (λ (o : Custody). o.party) c.new-party.ensures.custody ∙ c.new-custody.ensures) _ _ c.requires.live _ _ _ _ _ reaches

pub returns-clause-unwritten : goal.returns-clause-unwritten
returns-clause-unwritten g c = λ is.
    let (base, into, reaches) = c.run_kept-end.ensures.run in
    search rules

pub returns-clause-past : goal.returns-clause-past
returns-clause-past g c =
    let (base, into, reaches) = c.run_kept-end.ensures.run in
    past-as g.D.Disk.moment g.D.Disk.left_since c.args.disk.now _ _ (search rules) into.1

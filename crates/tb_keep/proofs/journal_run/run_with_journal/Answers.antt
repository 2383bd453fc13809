use Rattle.std.proofs.Common.{arith, refl}
use Rattle.tb_disk.proofs.Past.{past-then}
use Rattle.tb_keep.proofs.JournalRunning.{all-counted, all-ran}
use Rattle.tb_keep.proofs.journal_run.run_with_journal.Goals as goal

pub returns-in-Recovered-clause-run : goal.returns-in-Recovered-clause-run
returns-in-Recovered-clause-run g c =
    all-ran g.D.Disk.content g.D.Disk.may_leave g.D.Disk.moment g.D.Disk.left_since g.D.Disk.faults c.args.setting.now.setup.now c.args.custodian.writer.start.base c.recover.new.custodian
    c.args.disk.now c.recover.new.disk c.run_played.new.disk c.in-Recovered.ensures.recovered
    c.args.script.now.lines c.run_played.result c.run_played.ensures.unwritten _ _ _ _ c.run_played.ensures.run c.in-Recovered.ensures.count c.in-Recovered.ensures.past.later c.run_played.ensures.past

pub returns-in-Recovered-clause-disk_count : goal.returns-in-Recovered-clause-disk_count
returns-in-Recovered-clause-disk_count g c =
    let counts = all-counted g.D.Disk.content g.D.Disk.may_leave g.D.Disk.moment g.D.Disk.left_since g.D.Disk.faults c.args.setting.now.setup.now c.args.custodian.writer.start.base c.recover.new.custodian
    c.args.disk.now c.recover.new.disk c.run_played.new.disk c.in-Recovered.ensures.recovered
    c.args.script.now.lines c.run_played.result c.run_played.ensures.unwritten _ _ _ _ c.run_played.ensures.run in
    omega (arith, c.in-Recovered.ensures.count, counts)

pub returns-in-Refused-clause-run : goal.returns-in-Refused-clause-run
returns-in-Refused-clause-run g c = ((refl, refl), c.in-Refused.ensures.recovered.0, c.in-Refused.ensures.recovered.1)

pub returns-in-DiskFault-clause-disk_failed : goal.returns-in-DiskFault-clause-disk_failed
returns-in-DiskFault-clause-disk_failed g c = λ _. c.in-DiskFault.ensures.recovered.0

pub returns-in-DiskFault-clause-run : goal.returns-in-DiskFault-clause-run
returns-in-DiskFault-clause-run g c = ((refl, refl), c.in-DiskFault.ensures.recovered.1)

pub returns-in-Memory-clause-run : goal.returns-in-Memory-clause-run
returns-in-Memory-clause-run g c = ((refl, refl), c.in-Memory.ensures.recovered)

pub returns-in-Recovered-clause-past : goal.returns-in-Recovered-clause-past
returns-in-Recovered-clause-past g c =
    past-then g.D.Disk.moment g.D.Disk.left_since c.args.disk.now c.recover.new.disk c.run_played.new.disk c.in-Recovered.ensures.past c.run_played.ensures.past

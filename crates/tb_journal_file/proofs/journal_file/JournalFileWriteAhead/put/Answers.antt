use Rattle.std.proofs.Common.{◌∙◌, refl, ap}
use Rattle.tb_journal.specs.States.{JournalState}
use Rattle.tb_journal_file.proofs.Putting.{added, may-be-added, since-more}
use Rattle.tb_journal_file.proofs.journal_file.JournalFileWriteAhead.put.Goals as goal

pub returns-in-Kept-clause-kept : goal.returns-in-Kept-clause-kept
returns-in-Kept-clause-kept g c = λ _.
    let put = c.in-Kept.ensures in
    let old = c.args.self.now.disk.now in
    let reads = g.met.D.Disk.as_it_reads old in
    let told = g.met.D.Disk.told_beside c.put.new.disk in (
      ap (λ (j : JournalState). j.live) (put.state refl) ∙ c.requires.live,
      λ since batches stands. record {
        now = added g.D.Disk.content g.D.Disk.may_leave old c.put.new.disk reads told c.args.edits.now (put.kept refl) (λ file now. (put.on refl file now).durable) batches stands.now;
        ever = since-more g.D.Disk.content g.D.Disk.may_leave old c.put.new.disk reads told c.args.edits.now g.D.Disk.moment g.D.Disk.left_since put.tells put.any_moment since batches stands;
      },
    )

pub returns-in-DiskFault-clause-fault : goal.returns-in-DiskFault-clause-fault
returns-in-DiskFault-clause-fault g c = λ _.
    let put = c.in-DiskFault.ensures in
    let old = c.args.self.now.disk.now in
    let reads = g.met.D.Disk.as_it_reads old in
    let told = g.met.D.Disk.told_beside c.put.new.disk in (
      ap (λ (j : JournalState). j.live) (put.fault refl),
      put.failed refl,
      λ since batches stands. record {
        now = may-be-added g.D.Disk.content g.D.Disk.may_leave old c.put.new.disk reads told c.args.edits.now g.D.Disk.moment g.D.Disk.left_since (g.met.D.Disk.counts_now c.put.new.disk) put.tells put.any_moment batches stands.now;
        ever = since-more g.D.Disk.content g.D.Disk.may_leave old c.put.new.disk reads told c.args.edits.now g.D.Disk.moment g.D.Disk.left_since put.tells put.any_moment since batches stands;
      },
    )

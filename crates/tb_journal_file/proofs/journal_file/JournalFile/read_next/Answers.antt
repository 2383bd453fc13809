use Rattle.tb_journal_file.proofs.Recovering.{read-on}
use Rattle.tb_journal_file.proofs.journal_file.JournalFile.read_next.Goals as goal

pub returns-clause-read : goal.returns-clause-read
returns-clause-read g c = λ batches read.
    let next = c.read_next.ensures in
    read-on _ _ (g.D.Disk.may_leave c.read_next.new.disk) (g.met.D.Disk.told_beside c.read_next.new.disk) next.quiet.same batches c.args.self.now.journal c.read_next.new.self next.on read c.read_next.result next.told next.state

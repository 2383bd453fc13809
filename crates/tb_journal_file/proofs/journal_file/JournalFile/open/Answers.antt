use Rattle.tb_journal_file.proofs.Recovering.{none-read}
use Rattle.tb_journal_file.proofs.journal_file.JournalFile.open.Goals as goal

pub returns-clause-read : goal.returns-clause-read
returns-clause-read g c = λ is. none-read _ _ (c.open.ensures.opened is) (c.open.ensures.ours is)

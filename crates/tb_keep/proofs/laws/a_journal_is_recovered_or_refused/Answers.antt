use Rattle.tb_keep.proofs.Refusing.{recovered_or_refused}
use Rattle.tb_keep.proofs.laws.a_journal_is_recovered_or_refused.Goals as goal

pub returns : goal.returns
returns c = recovered_or_refused

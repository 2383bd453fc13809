use Rattle.tb_revise.proofs.Fitting.{read_edits_fit}
use Rattle.tb_revise.proofs.laws.read_edits_fit.Goals as goal

pub returns : goal.returns
returns c = read_edits_fit

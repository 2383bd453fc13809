use Rattle.tb_release.proofs.Fitting.{stay_fitting}
use Rattle.tb_release.proofs.laws.fitting_edits_leave_fitting_records.Goals as goal

pub returns : goal.returns
returns c = stay_fitting

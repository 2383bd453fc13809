use Rattle.tb_release.proofs.Chained.{batches_lead_on}
use Rattle.tb_release.proofs.laws.changes_lead_where_edits_lead.Goals as goal

pub returns : goal.returns
returns c = batches_lead_on

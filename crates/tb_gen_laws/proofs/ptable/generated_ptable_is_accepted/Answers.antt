use Rattle.tb_gen_laws.proofs.Perturbations.{table-accepted, table-short}
use Rattle.tb_gen_laws.proofs.ptable.generated_ptable_is_accepted.Goals as goal

pub returns : goal.returns
returns c = record { accepted = table-accepted; short = table-short }

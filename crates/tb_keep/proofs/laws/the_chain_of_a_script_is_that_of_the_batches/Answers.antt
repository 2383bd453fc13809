use Rattle.tb_keep.proofs.Chains.{stays_theirs_in_scripts}
use Rattle.tb_keep.proofs.laws.the_chain_of_a_script_is_that_of_the_batches.Goals as goal

pub returns : goal.returns
returns c = stays_theirs_in_scripts

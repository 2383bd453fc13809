use Rattle.tb_schema.proofs.KeyReading.{bad_keys_comes_exactly}
use Rattle.tb_schema.proofs.laws.bad_keys_comes_exactly_there.Goals as goal

pub returns : goal.returns
returns c = bad_keys_comes_exactly

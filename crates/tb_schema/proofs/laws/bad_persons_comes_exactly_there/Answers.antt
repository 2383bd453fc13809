use Rattle.tb_schema.proofs.KeyReading.{bad_persons_comes_exactly}
use Rattle.tb_schema.proofs.laws.bad_persons_comes_exactly_there.Goals as goal

pub returns : goal.returns
returns c = bad_persons_comes_exactly

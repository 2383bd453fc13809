use Rattle.tb_core.proofs.NumberLemmas.{numbers_never_fall}
use Rattle.tb_core.proofs.laws.numbers_never_fall.Goals as goal

pub returns : goal.returns
returns c = numbers_never_fall

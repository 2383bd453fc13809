use Rattle.tb_session.proofs.Numbers.{numbers_never_fall}
use Rattle.tb_session.proofs.laws.numbers_never_fall.Goals as goal

pub returns : goal.returns
returns c = numbers_never_fall

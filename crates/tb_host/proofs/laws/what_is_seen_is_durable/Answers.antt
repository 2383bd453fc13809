use Rattle.tb_host.proofs.Durable.{is_durable}
use Rattle.tb_host.proofs.laws.what_is_seen_is_durable.Goals as goal

pub returns : goal.returns
returns c = is_durable c.numbers_never_fall.ensures

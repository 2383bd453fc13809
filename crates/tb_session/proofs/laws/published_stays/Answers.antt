use Rattle.tb_session.proofs.Publishing.{published_stays}
use Rattle.tb_session.proofs.laws.published_stays.Goals as goal

pub returns : goal.returns
returns c = published_stays

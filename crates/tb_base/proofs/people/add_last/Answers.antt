use Rattle.tb_base.proofs.PersonLemmas.{has_person-above}
use Rattle.tb_base.proofs.people.add_last.Goals as goal

pub returns-in-Ok-clause-adds : goal.returns-in-Ok-clause-adds
returns-in-Ok-clause-adds c = (has_person-above c.args.records.now.items c.args.one.person c.requires.last, c.in-Ok.ensures.items)

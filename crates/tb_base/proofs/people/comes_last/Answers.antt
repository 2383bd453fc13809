use Rattle.std.proofs.lemmas.Bool.{ltb-true}
use Rattle.tb_base.proofs.PersonLemmas.{IsAbove-last}
use Rattle.tb_base.proofs.people.comes_last.Goals as goal

pub returns-in-Some : goal.returns-in-Some
returns-in-Some c = λ h. IsAbove-last c.args.records.now c.in-Some.last.now c.args.person c.requires c.in-Some.ensures.value (ltb-true _ _ h)

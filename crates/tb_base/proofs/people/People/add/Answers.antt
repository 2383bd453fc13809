use Rattle.tb_base.proofs.PersonLemmas.{AreDistinct-added, AreFound-ascending}
use Rattle.tb_base.proofs.people.People.add.Goals as goal

pub invariant_of-self : goal.invariant_of-self
invariant_of-self c =
    (AreDistinct-added c.self.inside.records.items c.args.one c.add_beside.result _ c.add_beside.ensures.adds c.self.invariant.0, c.add_beside.ensures.found)

pub invariant_of-self-then-comes_last : goal.invariant_of-self-then-comes_last
invariant_of-self-then-comes_last c =
    (AreDistinct-added c.self.inside.records.items c.args.one c.add_last.result _ c.add_last.ensures.adds c.self.invariant.0, AreFound-ascending c.self.inside.persons _ c.in_default.not-Some c.add_last.ensures.ascend)

pub invariant_of-self-2 : goal.invariant_of-self-2
invariant_of-self-2 c =
    (AreDistinct-added c.self.inside.records.items c.args.one c.add_beside-added.result _ c.add_beside-added.ensures.adds c.self.invariant.0, c.add_beside-added.ensures.found)

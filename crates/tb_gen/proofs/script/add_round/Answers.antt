use Rattle.tb_gen.proofs.Fields.{three_parts}
use Rattle.tb_gen.proofs.script.add_round.Goals as goal

pub returns-clause-lines : goal.returns-clause-lines
returns-clause-lines c = three_parts _ _ _ _ c.in_ok-extend_from_slice.ensures.items c.in_ok-add_amends.ensures.lines
    c.in_ok-extend_from_slice-2.ensures.items

use Rattle.std.proofs.Common.{refl, subst, inl, inr}
use Rattle.tb_io.specs.Taken.{Took, TookPart}
use Rattle.tb_top.proofs.Boards.{refused-line}
use Rattle.tb_top.proofs.keep.end_refused.Goals as goal

pub returns-in-All-clause-ended : goal.returns-in-All-clause-ended
returns-in-All-clause-ended g c =
    let line = refused-line c.args.fault.now c.name_of-name.result _ _ _ c.name_of-name.ensures c.number.ensures c.word.ensures c.record_of.ensures in
    inl (refl, subst (Took _ _) line (c.in-All.ensures.written.all refl))

pub returns-in-Failed-clause-ended : goal.returns-in-Failed-clause-ended
returns-in-Failed-clause-ended g c =
    let line = refused-line c.args.fault.now c.name_of-name.result _ _ _ c.name_of-name.ensures c.number.ensures c.word.ensures c.record_of.ensures in
    inr (refl, subst (TookPart _ _) line (c.in-Failed.ensures.written.part refl), c.in-Failed.ensures.written.failed refl)

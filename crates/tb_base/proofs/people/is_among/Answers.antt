use Rattle.std.proofs.Common.{sym, refl, rules}
use Rattle.std.proofs.lemmas.List.Sorted.{answers_always}
use Rattle.tb_base.proofs.PersonLemmas.{has_person-above, has_person-at, has_person-between, rises}
use Rattle.tb_base.proofs.people.is_among.Goals as goal

pub returns-then-comes_last : goal.returns-then-comes_last
returns-then-comes_last c = sym (has_person-above c.args.records.now c.args.person (c.if-comes_last.ensures refl))

pub returns-in-Ok : goal.returns-in-Ok
returns-in-Ok c = sym (has_person-at c.args.records.now c.args.person c.in-Ok.field-0 c.in-Ok.ensures.bound (c.in-Ok.ensures.position (λ r. r.person) (answers_always _ _ _ (λ f a r g called. search rules))))

pub returns-in-Err : goal.returns-in-Err
returns-in-Err c = sym (has_person-between c.args.records.now c.args.person c.in-Err.field-0 (c.in-Err.ensures.position (λ r. r.person) (answers_always _ _ _ (λ f a r g called. search rules)) (rises c.args.records.now c.args.person c.requires)))

use Rattle.std.proofs.Common.{subst}
use Rattle.tb_plan.specs.Plans.{PlanValue}
use Rattle.tb_tables.specs.Counting.{IsCounted}
use Rattle.tb_tables.proofs.answer.table_anew.Goals as goal

pub prepare-requires-clause-counted : goal.prepare-requires-clause-counted
prepare-requires-clause-counted g c =
    (c.args.release.now, subst (λ (p : PlanValue). IsCounted p c.args.release.now c.in_ok-counted.counted) c.in_ok-plan.ensures c.in_ok-counted.ensures.counted)

pub returns-clause-text : goal.returns-clause-text
returns-clause-text g c =
    c.prepare.ensures.text c.args.release.now (subst (λ (p : PlanValue). IsCounted p c.args.release.now c.in_ok-counted.counted) c.in_ok-plan.ensures c.in_ok-counted.ensures.counted)

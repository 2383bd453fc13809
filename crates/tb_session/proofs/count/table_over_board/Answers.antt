use Rattle.std.proofs.Common.{subst}
use Rattle.tb_board.specs.Holders.{release_seen}
use Rattle.tb_plan.specs.Plans.{PlanValue}
use Rattle.tb_tables.specs.Counting.{IsCounted}
use Rattle.tb_session.proofs.count.table_over_board.Goals as goal

pub prepare-requires-clause-counted : goal.prepare-requires-clause-counted
prepare-requires-clause-counted g c =
    let release = release_seen c.count.new.pass in
    (release, subst (λ (p : PlanValue). IsCounted p release c.in_ok-counted.counted) c.in_ok-plan.ensures c.in_ok-counted.ensures.counted)

pub returns-clause-text : goal.returns-clause-text
returns-clause-text g c =
    let release = release_seen c.count.new.pass in
    c.prepare.ensures.text release (subst (λ (p : PlanValue). IsCounted p release c.in_ok-counted.counted) c.in_ok-plan.ensures c.in_ok-counted.ensures.counted)

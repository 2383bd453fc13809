use Rattle.std.proofs.Common.{◌≡◌, ◌∙◌, ap, subst, ℕ, List, length, arith}
use Rattle.std.specs.Prelude.{IfOk}
use Rattle.std.specs.Arc.{arc_value}
use Rattle.tb_base.specs.Records.{AllFit}
use Rattle.tb_core.specs.Takes.{number_of, release_in}
use Rattle.tb_model.specs.Releases.{ReleaseValue}
use Rattle.tb_session.specs.PastTaken.{base_in, chain_in}
use Rattle.tb_session.proofs.PastCounts.{fits_taken, taken_at}
use Rattle.tb_session.proofs.PastPrices.{lent_within, made_fits, made_within}
use Rattle.tb_session.proofs.count_past.count_past_by_records.Goals as goal
use Rattle.tb_tables.specs.Counting.{IsCounted}

-- ---- the release that was taken
pub count_records-requires : goal.count_records-requires
count_records-requires g c =
    record { fit = rw c.deref-then-number-from.ensures (fits_taken c.args.plan.now (base_in c.args.past.now) (chain_in c.args.past.now) c.args.past.now.taken c.requires.past) }

pub returns-then-number-from-clause-price : goal.returns-then-number-from-clause-price
returns-then-number-from-clause-price g c =
    let past = c.args.past.now in
    let long = ap (λ (r : ReleaseValue). length r.records) c.deref-then-number-from.ensures in
    lent_within (base_in past) (chain_in past) (number_of past.taken) c.args.steps.now c.count_records.new.steps c.args.steps.now (release_in past.taken) c.requires.past.release (omega arith) (omega (arith, c.count_records.ensures.price, long))

pub returns-then-number-from-clause-counted : goal.returns-then-number-from-clause-counted
returns-then-number-from-clause-counted g c =
    let past = c.args.past.now in
    let number : c.number-from.result ≡ number_of past.taken = c.number-from.ensures ∙ ap (λ r. r.number) c.deref.ensures in
    let same : c.args.number ≡ number_of past.taken = omega (arith, c.if-number-from.true, number) in
    subst (λ (r : ReleaseValue). IfOk c.count_records.result (IsCounted c.args.plan.now r))
    (c.deref-then-number-from.ensures ∙ taken_at c.args.plan.now (base_in past) (chain_in past) past.taken c.args.number c.requires.past same) c.count_records.ensures.counted

-- ---- one that is made
pub release_at-requires-clause-chain : goal.release_at-requires-clause-chain
release_at-requires-clause-chain g c = rw c.requires.shape c.requires.past.revised

pub returns-in_err-release-clause-price : goal.returns-in_err-release-clause-price
returns-in_err-release-clause-price g c =
    made_fits (base_in c.args.past.now) (chain_in c.args.past.now) c.args.number c.args.steps.now c.args.steps.now c.release_at.new.steps c.release_at.ensures.price

pub count_records-requires-2 : goal.count_records-requires-2
count_records-requires-2 g c =
    record { fit = rw c.deref-2.ensures (subst (λ (s : List ℕ). AllFit s (arc_value c.in_ok-release.release).records) c.requires.shape c.in_ok-release.ensures.fit) }

pub returns-clause-price : goal.returns-clause-price
returns-clause-price g c =
    let past = c.args.past.now in
    let long = ap (λ (r : ReleaseValue). length r.records) c.deref-2.ensures in
    lent_within (base_in past) (chain_in past) c.args.number c.args.steps.now c.count_records-2.new.steps c.release_at.new.steps (arc_value c.in_ok-release.release) c.in_ok-release.ensures.release
    (made_within (base_in past) (chain_in past) c.args.number c.args.steps.now c.args.steps.now c.release_at.new.steps c.release_at.ensures.price) (omega (arith, c.count_records-2.ensures.price, long))

pub returns-clause-counted : goal.returns-clause-counted
returns-clause-counted g c =
    subst (λ (r : ReleaseValue). IfOk c.count_records-2.result (IsCounted c.args.plan.now r)) (c.deref-2.ensures ∙ c.in_ok-release.ensures.release) c.count_records-2.ensures.counted

use Rattle.std.proofs.Common.{◌≡◌, ◌∙◌, ap, arith}
use Rattle.std.specs.Arc.{arc_value}
use Rattle.std.proofs.lemmas.Result.{IfOk-weaker}
use Rattle.tb_core.specs.Takes.{number_of}
use Rattle.tb_release.specs.Revised.{release_at}
use Rattle.tb_session.specs.PastTaken.{base_in, chain_in}
use Rattle.tb_session.proofs.PastCubes.{from_taken, led_to, plans_cube}
use Rattle.tb_session.proofs.PastPrices.{between_le}
use Rattle.tb_session.proofs.count_past.count_from.Goals as goal

pub rules_of-requires : goal.rules_of-requires
rules_of-requires g c = c.requires.there

pub lead_to-requires-clause-from : goal.lead_to-requires-clause-from
lead_to-requires-clause-from g c =
    let number : c.number-from.result ≡ number_of c.args.past.now.taken = c.number-from.ensures ∙ ap (λ r. r.number) c.deref.ensures in
    omega (arith, number, c.requires.past.there)

pub lead_to-requires-clause-cube : goal.lead_to-requires-clause-cube
lead_to-requires-clause-cube g c =
    let number : c.number-from.result ≡ number_of c.args.past.now.taken = c.number-from.ensures ∙ ap (λ r. r.number) c.deref.ensures in
    (base_in c.args.past.now, from_taken c.args.plan.now (base_in c.args.past.now) (chain_in c.args.past.now) c.args.past.now.taken c.requires.past c.args.cube c.number-from.result c.requires.cube number)

pub roll_up_at-requires : goal.roll_up_at-requires
roll_up_at-requires g c =
    let past = c.args.past.now in
    let t = c.requires.past in
    let number : c.number-from.result ≡ number_of past.taken = c.number-from.ensures ∙ ap (λ r. r.number) c.deref.ensures in
    let leads = c.lead_to.ensures.cube (base_in past) (from_taken c.args.plan.now (base_in past) (chain_in past) past.taken t c.args.cube c.number-from.result c.requires.cube number) in (
      release_at (base_in past) (chain_in past) c.args.number,
      plans_cube c.args.plan.now (base_in past) (chain_in past) c.args.number c.lead_to.new.cube (arc_value c.in_ok-rules.rules) t.revised c.requires.there
          (led_to c.args.plan.now (base_in past) (chain_in past) past.taken t c.args.cube c.number-from.result c.lead_to.new.cube c.args.number c.requires.cube leads) c.in_ok-rules.ensures,
    )

pub returns-clause-counted : goal.returns-clause-counted
returns-clause-counted g c =
    let past = c.args.past.now in
    let t = c.requires.past in
    let number : c.number-from.result ≡ number_of past.taken = c.number-from.ensures ∙ ap (λ r. r.number) c.deref.ensures in
    let leads = c.lead_to.ensures.cube (base_in past) (from_taken c.args.plan.now (base_in past) (chain_in past) past.taken t c.args.cube c.number-from.result c.requires.cube number) in
    IfOk-weaker c.roll_up_at.result _ _ (λ counted h. h (release_at (base_in past) (chain_in past) c.args.number)
    (plans_cube c.args.plan.now (base_in past) (chain_in past) c.args.number c.lead_to.new.cube (arc_value c.in_ok-rules.rules) t.revised c.requires.there
    (led_to c.args.plan.now (base_in past) (chain_in past) past.taken t c.args.cube c.number-from.result c.lead_to.new.cube c.args.number c.requires.cube leads) c.in_ok-rules.ensures)) c.roll_up_at.ensures

pub returns-clause-price : goal.returns-clause-price
returns-clause-price g c =
    omega (arith, c.lead_to.ensures.charge, between_le (chain_in c.args.past.now) c.number-from.result c.args.number)

use Rattle.std.proofs.Common.{◌≡◌, ◌∙◌, ap, subst, sym, List, ℕ, arith}
use Rattle.tb_core.specs.Got.{cube_got}
use Rattle.tb_core.specs.Takes.{number_of, release_in}
use Rattle.tb_cube.specs.Cubes.{cube_over}
use Rattle.tb_model.specs.Releases.{ReleaseValue}
use Rattle.tb_session.specs.PastTaken.{base_in, chain_in}
use Rattle.tb_session.proofs.PastCounts.{fits_taken, may_keep, taken_at}
use Rattle.tb_session.proofs.count_past.count_got.Goals as goal
use Rattle.tb_tables.specs.Counting.{IsCounted}

pub roll_up-requires-clause-fit : goal.roll_up-requires-clause-fit
roll_up-requires-clause-fit g c =
    rw c.deref-then-number-from.ensures (fits_taken c.args.plan.now (base_in c.args.past.now) (chain_in c.args.past.now) c.args.past.now.taken c.requires.past.taken)

pub keep-requires-clause-cube : goal.keep-requires-clause-cube
keep-requires-clause-cube g c =
    let number : c.number-from.result ≡ number_of c.args.past.now.taken = c.number-from.ensures ∙ ap (λ r. r.number) c.deref.ensures in
    may_keep c.args.plan.now c.args.pass.now c.args.past.now c.requires.past c.vars-vars.result.now c.number-from.result (cube_got c.args.got) c.requires.own.fits number
    (c.requires.cube ∙ ap (λ (vs : List ℕ). cube_over c.args.plan.now.shape vs (release_in c.args.past.now.taken).records) (sym c.vars-vars.ensures.vars))

pub keep-requires-2-clause-cube : goal.keep-requires-2-clause-cube
keep-requires-2-clause-cube g c =
    let number : c.number-from.result ≡ number_of c.args.past.now.taken = c.number-from.ensures ∙ ap (λ r. r.number) c.deref.ensures in
    may_keep c.args.plan.now c.args.pass.now c.args.past.now c.requires.past c.vars-vars.result.now c.number-from.result (cube_got c.args.got) c.requires.own.fits number
    (c.requires.cube ∙ ap (λ (vs : List ℕ). cube_over c.args.plan.now.shape vs (release_in c.args.past.now.taken).records) (sym c.vars-vars.ensures.vars))

pub returns-then-number-from-clause-counted : goal.returns-then-number-from-clause-counted
returns-then-number-from-clause-counted g c =
    let past = c.args.past.now in
    let number : c.number-from.result ≡ number_of past.taken = c.number-from.ensures ∙ ap (λ r. r.number) c.deref.ensures in
    let same : c.args.number ≡ number_of past.taken = omega (arith, c.if-number-from.true, number) in
    subst (λ (r : ReleaseValue). IsCounted c.args.plan.now r c.in_ok-counted.counted) (c.deref-then-number-from.ensures ∙ taken_at c.args.plan.now (base_in past) (chain_in past) past.taken c.args.number c.requires.past.taken same) c.in_ok-counted.ensures.counted

use Rattle.std.proofs.Common.{◌∙◌, suc, true, false, refl, sym, subst}
use Rattle.tb_follow.specs.Followers.{follower}
use Rattle.tb_follow.specs.Steps.{GoesOn}
use Rattle.tb_follow.proofs.Given.{advanced-follower, advanced-less, step-advanced}
use Rattle.tb_follow.proofs.delivery.catch_up.Goals as goal

pub loop-init : goal.loop-init
loop-init g c = (c.requires.ready, c.requires.own, λ room. (room, refl))

pub loop-smaller : goal.loop-smaller
loop-smaller g c =
    let old = follower (g.A.Chain.value c.loop.chain) c.loop.window in
    let new = follower (g.A.Chain.value c.apply_next.new.chain) c.apply_next.new.window in
    advanced-less old new (subst (λ b. GoesOn old b new) c.loop-test.true c.apply_next.ensures.goes_on)

pub loop-preserved : goal.loop-preserved
loop-preserved g c =
    let old = follower (g.A.Chain.value c.loop.chain) c.loop.window in
    let new = follower (g.A.Chain.value c.apply_next.new.chain) c.apply_next.new.window in
    let goes : GoesOn old true new = subst (λ b. GoesOn old b new) c.loop-test.true c.apply_next.ensures.goes_on in (
      c.apply_next.ensures.ready,
      advanced-follower old new goes c.loop.invariant.1,
      λ room. (let before = c.loop.invariant.2 (suc room) in (before.0, before.1 ∙ step-advanced old new goes room)),
    )

pub returns-clause-caught_up : goal.returns-clause-caught_up
returns-clause-caught_up g c =
    let old = follower (g.A.Chain.value c.loop.chain) c.loop.window in
    let new = follower (g.A.Chain.value c.apply_next.new.chain) c.apply_next.new.window in
    let goes : GoesOn old false new = subst (λ b. GoesOn old b new) c.loop-test.false c.apply_next.ensures.goes_on in
    let before = c.loop.invariant.2 goes.0 in (before.0, goes.1 ∙ sym before.1)

use Rattle.std.proofs.Common.{◌∙◌, Ok, subst, sym}
use Rattle.tb_follow.specs.Followers.{IsFollower, follower}
use Rattle.tb_follow.specs.Steps.{TakesIn}
use Rattle.tb_follow.proofs.Following.{follower-kept}
use Rattle.tb_follow.proofs.Given.{in-kept, in-waits}
use Rattle.tb_follow.proofs.delivery.take_later.Goals as goal

pub returns-then-has-clause-takes : goal.returns-then-has-clause-takes
returns-then-has-clause-takes c = λ chain later. in-waits (follower chain c.args.window.now) c.args.message later (sym c.has.ensures ∙ c.if-has.true)

pub returns-in-Ok-clause-own : goal.returns-in-Ok-clause-own
returns-in-Ok-clause-own c = λ chain fits later own.
    subst (λ w. IsFollower (follower chain w)) (sym c.in-Ok.ensures.ok) (follower-kept (follower chain c.args.window.now) c.args.message own fits later (sym c.has.ensures ∙ c.if-has.false))

pub returns-in-Ok-clause-takes : goal.returns-in-Ok-clause-takes
returns-in-Ok-clause-takes c = λ chain later.
    let old = follower chain c.args.window.now in
    subst (λ w. TakesIn old c.args.message (Ok tt) (follower chain w)) (sym c.in-Ok.ensures.ok) (in-kept old c.args.message later (sym c.has.ensures ∙ c.if-has.false))

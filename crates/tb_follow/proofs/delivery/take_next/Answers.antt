use Rattle.std.proofs.Common.{Err, ap, subst, sym}
use Rattle.tb_follow.specs.Followers.{IsFollower, follower}
use Rattle.tb_follow.specs.Steps.{TakesIn}
use Rattle.tb_follow.proofs.Following.{follower-advanced}
use Rattle.tb_follow.proofs.Given.{in-applied, in-next, in-refused}
use Rattle.tb_follow.proofs.delivery.take_next.Goals as goal

pub returns-in-Ok-clause-own : goal.returns-in-Ok-clause-own
returns-in-Ok-clause-own g c =
    let old = g.A.Chain.value c.args.chain.now in
    let m = c.args.message.now in
    let same = in-applied old (g.A.Chain.value c.apply.new.self) c.args.window.now c.remove.new.self m c.requires.next c.in-Ok.ensures.ok c.remove.ensures in
    subst IsFollower (sym same) (follower-advanced (follower old c.args.window.now) m.edits c.requires.own)

pub returns-in-Ok-clause-takes : goal.returns-in-Ok-clause-takes
returns-in-Ok-clause-takes g c =
    let old = g.A.Chain.value c.args.chain.now in
    let new = g.A.Chain.value c.apply.new.self in
    let m = c.args.message.now in
    in-next (follower old c.args.window.now) (follower new c.remove.new.self) m c.requires.next c.in-Ok.ensures.ok.possible
    (in-applied old new c.args.window.now c.remove.new.self m c.requires.next c.in-Ok.ensures.ok c.remove.ensures)

pub returns-in-Err-clause-takes : goal.returns-in-Err-clause-takes
returns-in-Err-clause-takes g c =
    let window = c.args.window.now in
    let old = follower (g.A.Chain.value c.args.chain.now) window in
    let new = follower (g.A.Chain.value c.apply.new.self) window in
    subst (λ a. TakesIn old c.args.message.now (Err a) new) (sym c.refusal.ensures)
    (in-refused old new c.args.message.now c.in-Err.fault c.requires.next c.in-Err.ensures.why (ap (λ v. follower v window) c.in-Err.ensures.err))

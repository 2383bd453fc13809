use Rattle.std.proofs.Common.{◌<◌, ℕ, Option, length, subst}
use Rattle.std.specs.Prelude.{IfSome}
use Rattle.tb_lanes.proofs.Swapping.{swapped_by}
use Rattle.tb_lanes.proofs.phase.swap_owner.Goals as goal

pub returns-in-Some : goal.returns-in-Some
returns-in-Some g c =
    let below = subst (λ (o : Option ℕ). IfSome o (λ n. n < length c.args.lanes.now)) c.in-Some.is c.requires in
    swapped_by c.args.own.now c.args.owner c.args.lanes.now c.in-Some.n c.index-lanes-n.result c.swap.new.x c.swap.new.y c.in-Some.is below
    c.swap.ensures.x_after c.swap.ensures.y_after

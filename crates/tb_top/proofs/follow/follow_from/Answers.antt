use Rattle.std.proofs.Common.{refl, inl, inr}
use Rattle.tb_top.proofs.Following.{follow-all, follow-part}
use Rattle.tb_top.proofs.follow.follow_from.Goals as goal

pub returns-in-All : goal.returns-in-All
returns-in-All g c =
    let (last, all) = c.in-All.ensures.run in
    inl (refl, follow-all c.args.setup.now c.args.base c.args.script.now c.shape_in.result.now c.in-Ok.follower c.in-Ok.ensures c.shape_in.ensures c.requires.base _ _ _ _ all)

pub returns-in-Failed : goal.returns-in-Failed
returns-in-Failed g c =
    let (last, cut) = c.in-Failed.ensures.run in
    inr (inl (
      refl,
      c.in-Failed.ensures.failed refl,
      follow-part c.args.setup.now c.args.base c.args.script.now c.shape_in.result.now c.in-Ok.follower c.in-Ok.ensures c.shape_in.ensures c.requires.base _ _ _ _ cut,
    ))

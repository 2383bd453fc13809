use Rattle.std.proofs.Common.{◌+◌, ◌∙◌, ap, sym}
use Rattle.std.specs.Option.{option_copied}
use Rattle.tb_follow.specs.Followers.{follower}
use Rattle.tb_follow.proofs.Following.{found-fits}
use Rattle.tb_follow.proofs.delivery.apply_next.Goals as goal

pub apply-requires-clause-fit : goal.apply-requires-clause-fit
apply-requires-clause-fit g c =
    found-fits (follower (g.A.Chain.value c.args.chain.now) c.args.window.now) (c.number-number.result + 1) c.in-Some.message.now c.requires.own (sym c.find.ensures ∙ ap option_copied c.in-Some.is)

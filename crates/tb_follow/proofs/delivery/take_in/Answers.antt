use Rattle.std.proofs.Common.{◌≡◌, ◌∙◌, false, ap, sym, arith}
use Rattle.tb_follow.specs.Chains.{number_at}
use Rattle.tb_follow.specs.Deliveries.{is_later}
use Rattle.tb_follow.specs.Followers.{follower}
use Rattle.tb_follow.proofs.Given.{in-else}
use Rattle.tb_follow.proofs.delivery.take_in.Goals as goal

pub returns-clause-takes : goal.returns-clause-takes
returns-clause-takes g c =
    let old = g.A.Chain.value c.args.chain.now in
    let before = c.number-before.ensures.number in
    let other = c.if-message-before.false in
    let later : is_later (number_at old) c.args.message.number ≡ false = ap (λ n. is_later n c.args.message.number) (sym before) ∙ sym c.is_later.ensures ∙ c.if-is_later.false in
    in-else (follower old c.args.window.now) c.args.message (λ e. omega (arith, other, before, e)) later

use Rattle.std.proofs.Common.{◌≡◌, ◌∙◌, ap, subst, []}
use Rattle.tb_host.proofs.Served.{hosts_from}
use Rattle.tb_host.specs.Sessions.{HostsFrom}
use Rattle.tb_keep.specs.JournalOwners.{keeper_of}
use Rattle.tb_session.specs.declared.custody.Custody.{Custody}
use Rattle.tb_session.specs.declared.party.Party.{Party}
use Rattle.tb_session.specs.declared.party.Party.TheVariants as party
use Rattle.tb_host.proofs.hosting.serve_kept.Goals as goal

pub returns-clause-hosts : goal.returns-clause-hosts
returns-clause-hosts g c =
    let ahead = g.met.W.WriteAhead g.world.𝓛 g.world.𝓜 g.world.𝓡 ((λ s x. x), (λ x. x), (λ x. x), λ x. x) in
    let is : c.new-party.result.custody.party ≡ party.Custodian c.args.custodian [] = ap (λ (o : Custody). o.party) c.new-party.ensures.custody ∙ c.new-custody.ensures in
    subst (λ (p : Party). HostsFrom g.W.WriteAhead.Continues g.W.WriteAhead.live g.W.WriteAhead.faults g.W.WriteAhead.StandsFor c.args.setting.now.setup.now c.args.sessions (keeper_of p c.args.ahead)
    (keeper_of c.serve_from.result.keeper.party.custody.party c.serve_from.result.keeper.ahead) c.args.ports.now c.serve_from.new.ports)
    is
    (hosts_from g.W.WriteAhead.Continues ahead.continues_itself ahead.continues_on g.W.WriteAhead.live g.W.WriteAhead.faults g.W.WriteAhead.StandsFor c.args.setting.now.setup.now c.args.sessions
    (keeper_of c.new-party.result.custody.party c.args.ahead) (keeper_of c.serve_from.result.keeper.party.custody.party c.serve_from.result.keeper.ahead)
    c.args.ports.now c.serve_from.new.ports c.requires.some c.serve_from.ensures.left.same_length c.serve_from.ensures.first c.serve_from.ensures.others)

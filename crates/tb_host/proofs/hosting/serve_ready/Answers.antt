use Rattle.std.proofs.Common.{rules, subst, Bool, ℕ}
use Rattle.tb_disk.proofs.Past.{past-as}
use Rattle.tb_host.proofs.Served.{hosted_from}
use Rattle.tb_host.specs.Endings.{IsHostReported}
use Rattle.tb_serve.specs.Serves.{output}
use Rattle.tb_host.proofs.hosting.serve_ready.Goals as goal

pub returns-clause-served : goal.returns-clause-served
returns-clause-served g c =
    let (base, into, reaches) = c.serve_kept-owner.ensures.hosts in
    hosted_from g.D.Disk.content g.D.Disk.may_leave g.D.Disk.moment g.D.Disk.left_since g.D.Disk.faults c.args.disk.now _ _ ((g.met.D.Disk g.world.𝓛 g.world.𝓜 g.world.𝓡 ((λ s x. x), (λ x. x), (λ x. x), λ x. x)).only_now c.args.disk.now) (search rules) c.args.setting.now.setup.now c.args.custodian _ _ c.requires.live _
    c.args.places c.args.sessions c.args.ports.now c.serve_kept-owner.new.ports c.requires.some reaches _ _
    (subst (λ (x : Bool × ℕ). IsHostReported x.0 c.args.places c.serve_kept-owner.new.ports x.1 (output (g.O.Sink.taken c.args.out.now) (g.O.Sink.taken c.end_hosting.new.out) (g.O.Sink.faults c.args.out.now) (g.O.Sink.faults c.end_hosting.new.out)) c.end_hosting.result)
    (λ j. (c.is_live-live.ensures j, c.release_of-release.ensures j)) c.end_hosting.ensures.ended)

pub returns-clause-past : goal.returns-clause-past
returns-clause-past g c =
    let (base, into, reaches) = c.serve_kept-owner.ensures.hosts in
    past-as g.D.Disk.moment g.D.Disk.left_since c.args.disk.now _ _ (search rules) into.1

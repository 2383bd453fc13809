use Rattle.std.proofs.Common.{◌≡◌, ◌∙◌, sym, ap, subst, ℕ, ◌+◌, List, ◌++◌, length, take}
use Rattle.std.specs.Prelude.{Result}
use Rattle.std.proofs.Math.Seq.{take-append_seam}
use Rattle.tb_base.specs.declared.status.Status.{Status}
use Rattle.tb_host.specs.Hosting.{Hosts}
use Rattle.tb_keep.specs.Seen.{JournalSeen}
use Rattle.tb_keep.specs.declared.recovery.JournalFault.{JournalFault}
use Rattle.tb_model.specs.Releases.{ReleaseValue}
use Rattle.tb_model.specs.Setups.{SetupValue}
use Rattle.tb_serve.specs.Ports.{PortValue}
use Rattle.tb_serve.specs.Serves.{Output, output}
use Rattle.tb_serve.specs.declared.places.Places.{Places}
use Rattle.tb_host.proofs.Served.{seen}
use Rattle.tb_host.proofs.hosting.serve_with_journal.Goals as goal

-- what became of the first ports of a list
hosts_first : (setup : SetupValue) (base : ReleaseValue) (k : Places) (most n : ℕ) (all first after rest : List PortValue) (saw : JournalSeen) (out : Output)
    (ended : Result Status JournalFault) → first ≡ take n all → length after ≡ n
    → Hosts setup base k most first after saw out ended → Hosts setup base k most (take n all) (take n (after ++ rest)) saw out ended
hosts_first setup base k most n all first after rest saw out ended is long hosts =
    let same : after ≡ take n (after ++ rest) = sym (ap (λ m. take m (after ++ rest)) (sym long) ∙ take-append_seam after rest) in
    subst (λ (x : List PortValue × List PortValue). Hosts setup base k most x.0 x.1 saw out ended) (λ i. (is i, same i)) hosts

pub returns-clause-hosts : goal.returns-clause-hosts
returns-clause-hosts g c =
    hosts_first c.args.setting.now.setup.now c.args.custodian.writer.start.base c.args.places c.args.sessions
    (c.args.workers + 1) c.args.net.now c.split_at_mut-ports.result.0.now c.serve_ports.new.ports c.split_at_mut-ports.result.1.now
    (seen g.D.Disk.content g.D.Disk.may_leave g.D.Disk.moment g.D.Disk.left_since g.D.Disk.faults c.args.disk.now c.serve_ports.new.disk)
    (output (g.O.Sink.taken c.args.out.now) (g.O.Sink.taken c.serve_ports.new.out) (g.O.Sink.faults c.args.out.now)
    (g.O.Sink.faults c.serve_ports.new.out)) c.serve_ports.result
    c.split_at_mut-ports.ensures.front (c.serve_ports.auto.ports ∙ c.split_at_mut-ports.ensures.front_len) c.serve_ports.ensures.hosts

use Rattle.std.proofs.Common.{◌≡◌, ◌∙◌, ap, sym, subst, List, length, take, drop, ◌++◌, ◌+◌, ◌≤◌, arith}
use Rattle.tb_model.specs.Releases.{ReleaseValue}
use Rattle.tb_serve.specs.Ports.{PortValue}
use Rattle.tb_serve.specs.Serves.{Serves, output}
use Rattle.tb_top.specs.Loading.{census_value}
use Rattle.tb_top.specs.Services.{IsServiceAnswered, places_of, ports_of}
use Rattle.tb_top.proofs.PortLemmas.{written-back}
use Rattle.tb_top.proofs.top.serve_census.Goals as goal

pub returns : goal.returns
returns g c =
    let service = c.args.service.now in
    let ports : List PortValue = c.args.net.now.items in
    let new : List PortValue = c.serve.new.net in
    let slice : List PortValue = c.as_mut_slice.result.now in
    let value : slice ≡ ports = c.as_mut_slice.ensures.value in
    let count : length slice ≡ c.args.net.now.len = c.as_mut_slice.ensures.len in
    let full : length ports ≡ c.args.net.now.len = sym (ap length value) ∙ count in
    let same : length new ≡ c.args.net.now.len = c.serve.auto.net ∙ count in
    let back : take c.args.net.now.len (new ++ drop (length new) ports) ≡ new = written-back c.args.net.now.len ports new full same in
    let long : service.workers + 1 ≤ length ports = omega (arith, c.requires.ports, full) in
    let seen = output (g.O.Sink.taken c.args.out.now) (g.O.Sink.taken c.serve.new.out) (g.O.Sink.faults c.args.out.now) (g.O.Sink.faults c.serve.new.out) in
    let over : Serves c.args.census.setup c.args.census.release (places_of service) service.sessions (ports_of service ports)
    (ports_of service new) seen c.serve.result =
    rw (sym c.workers-workers.ensures, sym c.places_of-places.ensures.places, sym c.sessions-sessions.ensures, sym value) c.serve.ensures.served in
    let others : drop (service.workers + 1) new ≡ drop (service.workers + 1) ports =
    rw (sym c.workers-workers.ensures, sym value) c.serve.ensures.rest in
    let served = subst (λ (base : ReleaseValue). Serves c.args.census.setup base (places_of service) service.sessions (ports_of service ports)
    (ports_of service new) seen c.serve.result) c.requires.first.0 over in
    subst (λ (ps : List PortValue). IsServiceAnswered (census_value c.args.census) service ports ps c.serve.result
    (g.O.Sink.faults c.args.out.now) (g.O.Sink.faults c.serve.new.out) (g.O.Sink.taken c.args.out.now) (g.O.Sink.taken c.serve.new.out))
    (sym back) (long, others, served)

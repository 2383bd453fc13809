use Rattle.std.proofs.Common.{◌≡◌, ◌∙◌, sym, ap, subst, ℕ, ◌+◌, List, ◌++◌, length, take}
use Rattle.std.proofs.Math.Seq.{take-append_seam}
use Rattle.tb_base.specs.declared.status.Status.{Status}
use Rattle.tb_model.specs.Releases.{ReleaseValue}
use Rattle.tb_model.specs.Setups.{SetupValue}
use Rattle.tb_serve.specs.Ports.{PortValue}
use Rattle.tb_serve.specs.Serves.{Output, Serves, output}
use Rattle.tb_serve.specs.declared.places.Places.{Places}
use Rattle.tb_serve.proofs.serving.serve.Goals as goal

-- what became of the first ports of a list
served_first : (setup : SetupValue) (base : ReleaseValue) (k : Places) (most n : ℕ) (all first after rest : List PortValue) (out : Output)
    (ended : Status) → first ≡ take n all → length after ≡ n
    → Serves setup base k most first after out ended → Serves setup base k most (take n all) (take n (after ++ rest)) out ended
served_first setup base k most n all first after rest out ended is long served =
    let same : after ≡ take n (after ++ rest) = sym (ap (λ m. take m (after ++ rest)) (sym long) ∙ take-append_seam after rest) in
    subst (λ (x : List PortValue × List PortValue). Serves setup base k most x.0 x.1 out ended) (λ i. (is i, same i)) served

pub returns-clause-served : goal.returns-clause-served
returns-clause-served g c =
    served_first c.args.setup.now c.args.base c.args.places c.args.sessions
    (c.args.workers + 1) c.args.net.now c.split_at_mut-ports.result.0.now c.serve_ports.new.ports c.split_at_mut-ports.result.1.now
    (output (g.O.Sink.taken c.args.out.now) (g.O.Sink.taken c.serve_ports.new.out) (g.O.Sink.faults c.args.out.now)
    (g.O.Sink.faults c.serve_ports.new.out)) c.serve_ports.result
    c.split_at_mut-ports.ensures.front (c.serve_ports.auto.ports ∙ c.split_at_mut-ports.ensures.front_len) c.serve_ports.ensures

use Rattle.std.proofs.Common.{refl, inl, inr, arith}
use Rattle.tb_disk.proofs.Past.{past-then}
use Rattle.tb_serve.specs.Places.{number_at}
use Rattle.tb_serve.specs.Serves.{output}
use Rattle.tb_host.proofs.Served.{hosts_all, hosts_counted, untouched}
use Rattle.tb_host.proofs.hosting.serve_ports.Goals as goal

pub serve_ready-requires-clause-can : goal.serve_ready-requires-clause-can
serve_ready-requires-clause-can g c = λ κs within_κs i d lt.
    let same = c.in-Ready.ensures.same_length in
    (c.in-Ready.ensures.at i d (omega (arith, same, lt))).can

pub returns-in-Refused-clause-hosts : goal.returns-in-Refused-clause-hosts
returns-in-Refused-clause-hosts g c = (refl, refl, refl, c.in-Refused.ensures.recovered.0, c.in-Refused.ensures.recovered.1)

pub returns-in-DiskFault-clause-hosts : goal.returns-in-DiskFault-clause-hosts
returns-in-DiskFault-clause-hosts g c = inr (inl (refl, c.in-DiskFault.ensures.recovered.0, c.in-DiskFault.ensures.recovered.1, c.write_end.ensures.ended))

pub returns-in-Memory-clause-hosts : goal.returns-in-Memory-clause-hosts
returns-in-Memory-clause-hosts g c = inl ((untouched (number_at c.args.places) c.args.ports.now, c.write_end-in-Memory.ensures.ended), c.in-Memory.ensures.recovered)

pub returns-in-NoMemory-clause-hosts : goal.returns-in-NoMemory-clause-hosts
returns-in-NoMemory-clause-hosts g c = inl ((c.in-NoMemory.ensures, c.write_end-in-NoMemory.ensures.ended), c.in-Recovered.ensures.recovered.same)

pub returns-in-NotBound-clause-hosts : goal.returns-in-NotBound-clause-hosts
returns-in-NotBound-clause-hosts g c =
    let r = c.in-Recovered.ensures.recovered in
    inr (inr (inl ((c.in-NotBound.ensures.0, c.in-NotBound.ensures.1, c.write_end-in-NotBound.ensures.ended), record { batches = r.batches; all = r.recovered; left = r.left; ever = r.same.ever })))

pub returns-in-Ready-clause-hosts : goal.returns-in-Ready-clause-hosts
returns-in-Ready-clause-hosts g c =
    inr (inr (inr (hosts_all g.D.Disk.content g.D.Disk.may_leave g.D.Disk.moment g.D.Disk.left_since g.D.Disk.faults c.args.setting.now.setup.now c.args.custodian.writer.start.base c.args.disk.now c.recover.new.disk c.serve_ready.new.disk
    c.recover.new.custodian c.in-Recovered.ensures.recovered c.args.places c.args.sessions c.args.ports.now c.prepare.new.ports c.serve_ready.new.ports c.in-Ready.ensures
    (output (g.O.Sink.taken c.args.out.now) (g.O.Sink.taken c.serve_ready.new.out) (g.O.Sink.faults c.args.out.now) (g.O.Sink.faults c.serve_ready.new.out)) c.serve_ready.result
    c.serve_ready.ensures.served c.in-Recovered.ensures.count c.in-Recovered.ensures.past.later c.serve_ready.ensures.past c.serve_ready.ensures.left)))

pub returns-in-Ready-clause-count : goal.returns-in-Ready-clause-count
returns-in-Ready-clause-count g c =
    let counts = hosts_counted g.D.Disk.content g.D.Disk.may_leave g.D.Disk.moment g.D.Disk.left_since g.D.Disk.faults c.args.setting.now.setup.now c.args.custodian.writer.start.base c.args.disk.now c.recover.new.disk c.serve_ready.new.disk
    c.recover.new.custodian c.in-Recovered.ensures.recovered c.args.places c.args.sessions c.args.ports.now c.prepare.new.ports c.serve_ready.new.ports c.in-Ready.ensures
    (output (g.O.Sink.taken c.args.out.now) (g.O.Sink.taken c.serve_ready.new.out) (g.O.Sink.faults c.args.out.now) (g.O.Sink.faults c.serve_ready.new.out)) c.serve_ready.result
    c.serve_ready.ensures.served (omega (arith, c.requires.some, c.in-Ready.ensures.same_length)) in
    omega (arith, c.in-Recovered.ensures.count, counts)

pub returns-in-Ready-clause-past : goal.returns-in-Ready-clause-past
returns-in-Ready-clause-past g c =
    past-then g.D.Disk.moment g.D.Disk.left_since c.args.disk.now c.recover.new.disk c.serve_ready.new.disk c.in-Recovered.ensures.past c.serve_ready.ensures.past

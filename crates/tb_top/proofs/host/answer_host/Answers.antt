use Rattle.std.proofs.Common.{◌≡◌, ◌∙◌, ap, sym, subst, List, length, take, drop, ◌++◌}
use Rattle.tb_serve.specs.Ports.{PortValue}
use Rattle.tb_serve.specs.Serves.{output}
use Rattle.tb_top.specs.HostOutputs.{IsHostAnswered}
use Rattle.tb_top.specs.KeepOutputs.{disk_seen}
use Rattle.tb_top.specs.Loading.{census_value}
use Rattle.tb_top.proofs.PortLemmas.{written-back}
use Rattle.tb_top.proofs.host.answer_host.Goals as goal

pub returns : goal.returns
returns g c =
    let ports : List PortValue = c.args.net.now.items in
    let new : List PortValue = c.host_census.new.net in
    let slice : List PortValue = c.as_mut_slice.result.now in
    let value : slice ≡ ports = c.as_mut_slice.ensures.value in
    let count : length slice ≡ c.args.net.now.len = c.as_mut_slice.ensures.len in
    let full : length ports ≡ c.args.net.now.len = sym (ap length value) ∙ count in
    let same : length new ≡ c.args.net.now.len = c.host_census.auto.net ∙ count in
    let back : take c.args.net.now.len (new ++ drop (length new) ports) ≡ new = written-back c.args.net.now.len ports new full same in
    let out = output (g.O.Sink.taken c.args.out.now) (g.O.Sink.taken c.host_census.new.out) (g.O.Sink.faults c.args.out.now)
    (g.O.Sink.faults c.host_census.new.out) in
    let disk = disk_seen g.D.Disk.named g.D.Disk.could_leave g.D.Disk.attached g.D.Disk.content g.D.Disk.may_leave g.D.Disk.moment g.D.Disk.left_since g.D.Disk.faults c.args.disk.now c.host_census.new.disk in
    subst (λ (ps : List PortValue). IsHostAnswered (census_value c.args.census) c.args.hosted.now.service.now c.args.hosted.now.journal.now ports ps c.host_census.result out disk) (sym back)
    (rw value at c.host_census.ensures)

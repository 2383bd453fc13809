use Rattle.tb_io.specs.HeldFiles.{bytes_of}
use Rattle.tb_top.specs.InMemory.{memory_call}
use Rattle.tb_top.specs.KeepOutputs.{disk_seen}
use Rattle.tb_top.proofs.Finishing.{memory_read_fault}
use Rattle.tb_top.proofs.laws.run_in_memory.Goals as goal

pub returns-clause-read : goal.returns-clause-read
returns-clause-read g c = λ h.
    memory_read_fault (memory_call c.args.arguments.now c.args.files.now c.tablebuilder.new.files c.args.out.now
    c.tablebuilder.new.out c.args.net.now.items c.tablebuilder.new.net.items
    (disk_seen g.D.Disk.named g.D.Disk.could_leave g.D.Disk.attached g.D.Disk.content g.D.Disk.may_leave g.D.Disk.moment g.D.Disk.left_since g.D.Disk.faults c.args.disk.now c.tablebuilder.new.disk) c.args.steps.now
    c.tablebuilder.new.steps)
    (bytes_of c.args.files.now.held) c.tablebuilder.result c.args.out.now.taken c.tablebuilder.new.out.taken
    c.tablebuilder.ensures.text h

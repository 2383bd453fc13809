use Rattle.std.proofs.Common.{refl, ◌∙◌, ap}
use Rattle.tb_mem_disk.specs.Writes.{bytes_of}
use Rattle.tb_mem_disk.proofs.Contents.{seen-more, seen-written}
use Rattle.tb_mem_disk.proofs.held_file.FileBytes.write.Goals as goal

pub invariant_of-self-2 : goal.invariant_of-self-2
invariant_of-self-2 c =
    seen-more (λ w. (w.at, w.bytes.items)) c.self.inside.first.items c.self.inside.writes.items c.reserve.new.self.items c.push.new.self.items _ c.args.at c.in_ok-copy.copy.items c.args.bytes.now _ _
    c.reserve.ensures.items c.in-Ok.ensures.items refl c.in_ok-copy.ensures.items c.self.invariant c.in_ok-overwrite.ensures.ok

pub returns-clause-written : goal.returns-clause-written
returns-clause-written c =
    seen-written (λ w. (w.at, w.bytes.items)) c.self.inside.first.items c.self.inside.writes.items c.reserve.new.self.items c.push.new.self.items _ c.args.at c.in_ok-copy.copy.items c.args.bytes.now _ _
    c.reserve.ensures.items c.in-Ok.ensures.items refl c.in_ok-copy.ensures.items c.self.invariant c.in_ok-overwrite.ensures.ok (bytes_of c.args.self.now) (c.self.invariant ∙ ap bytes_of c.self.view_is)

use Rattle.std.proofs.Common.{List, Global, arith}
use Rattle.std.specs.Prelude.{flat_map}
use Rattle.std.specs.declared.vec.Vec.{Vec}
use Rattle.tb_base.specs.declared.records.Record.{Record}
use Rattle.tb_pages.proofs.CutLemmas.{some_left}
use Rattle.tb_pages.proofs.cutting.take_last.Goals as goal

pub cut_from-requires-in-pieces-clause-lists : goal.cut_from-requires-in-pieces-clause-lists
cut_from-requires-in-pieces-clause-lists c =
    let Records : Vec Record Global → List Record = λ list. list.items in
    some_left Records (flat_map Records c.args.lists.now.items) c.pieces.last.items c.pieces.lists.items
    (omega (arith, c.requires.there, c.len.ensures, c.pieces-test.true)) c.pieces.invariant.all

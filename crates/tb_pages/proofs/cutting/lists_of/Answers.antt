use Rattle.std.proofs.Common.{List, ◌≤◌, flat_map, length, refl, arith, Global}
use Rattle.std.specs.declared.vec.Vec.{Vec}
use Rattle.std.proofs.lemmas.List.Elements.{All-push}
use Rattle.tb_base.specs.declared.records.Record.{Record}
use Rattle.tb_model.specs.declared.rooms.TheConstants.{PAGE_ROOM}
use Rattle.tb_model.specs.Pages.{page_of}
use Rattle.tb_pages.proofs.CutLemmas.{one_more_cut, all_cut, off_behind}
use Rattle.tb_pages.proofs.cutting.lists_of.Goals as goal

pub cuts-preserved : goal.cuts-preserved
cuts-preserved c =
    let Records : Vec Record Global → List Record = λ list. list.items in
    let rest = flat_map Records c.cuts.rest.items in
    let left = flat_map Records c.take_last.new.lists.items in
    let last = c.in_ok-last.last in
    let pushed = c.in_ok-push.ensures.items in
    let count = c.in_ok-last.ensures.count in
    let off = off_behind rest left last.items c.cuts.left c.cuts.invariant.left (omega (arith, c.cuts-test.true)) count c.in_ok-last.ensures.all in record {
      left = off.0;
      so_far = one_more_cut (λ (list : Vec Record Global). page_of list.items 0) (flat_map Records c.args.lists.items) rest left last.items c.cuts.pages.items c.push.new.self.items last off.1 refl pushed c.cuts.invariant.so_far;
      room = rw pushed (All-push (λ (list : Vec Record Global). length list.items ≤ PAGE_ROOM) c.cuts.pages.items last c.cuts.invariant.room (omega (arith, count)));
    }

pub returns-clause-cut : goal.returns-clause-cut
returns-clause-cut c =
    let Records : Vec Record Global → List Record = λ list. list.items in
    all_cut (λ (list : Vec Record Global). page_of list.items 0) (flat_map Records c.args.lists.items) (flat_map Records c.cuts.rest.items) c.cuts.pages.items c.reverse.new.self.items
    (omega (arith, c.cuts.invariant.left, c.cuts-test.false)) c.reverse.ensures.items c.cuts.invariant.so_far

use Rattle.std.proofs.Common.{arith}
use Rattle.std.specs.Arc.{arc_value}
use Rattle.tb_pages.proofs.CutLemmas.{one_more_cut, all_cut}
use Rattle.tb_pages.proofs.pages.Pages.of.Goals as goal

pub cuts-preserved : goal.cuts-preserved
cuts-preserved c =
    one_more_cut arc_value c.args.records.items c.cuts.rest.items c.cut_last.new.records.items c.in_ok-last.last.items c.cuts.list.items c.push.new.self.items c.in_ok-shared_page.field-0
    c.in_ok-last.ensures.cut c.in_ok-shared_page.ensures c.in_ok-push.ensures.items c.cuts.invariant

pub returns : goal.returns
returns c =
    all_cut arc_value c.args.records.items c.cuts.rest.items c.cuts.list.items c.reverse.new.self.items
    (omega (arith, c.len-in-cuts.ensures, c.cuts-test.false)) c.reverse.ensures.items c.cuts.invariant

use Rattle.std.proofs.Common.{◌-◌, ◌*◌, ◌/◌, ◌∙◌, ap, arith}
use Rattle.tb_model.specs.declared.rooms.TheConstants.{PAGE_ROOM}
use Rattle.tb_pages.proofs.CutLemmas.{last_cut}
use Rattle.tb_pages.proofs.cutting.cut_last.Goals as goal

pub returns-clause-cut : goal.returns-clause-cut
returns-clause-cut c =
    last_cut c.args.records.now.items c.shrink_to_fit.new.self.items c.in_ok-last.last.items ((c.len.result - 1) / PAGE_ROOM * PAGE_ROOM)
    (ap (λ n. (n - 1) / PAGE_ROOM * PAGE_ROOM) (omega (arith, c.len.ensures))) c.requires (c.shrink_to_fit.ensures.items ∙ c.in_ok-last.ensures.items) c.in_ok-last.ensures.tail

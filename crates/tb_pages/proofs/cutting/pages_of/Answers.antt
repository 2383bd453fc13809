use Rattle.std.proofs.Common.{Global}
use Rattle.std.specs.Arc.{arc_value}
use Rattle.std.specs.declared.vec.Vec.{Vec}
use Rattle.tb_base.specs.declared.records.Record.{Record}
use Rattle.tb_model.specs.Pages.{PageValue, page_of}
use Rattle.tb_pages.proofs.CutLemmas.{all_made}
use Rattle.tb_pages.proofs.cutting.pages_of.Goals as goal

pub returns : goal.returns
returns g c =
    let Page : Vec Record Global → PageValue = λ list. page_of list.items 0 in
    let h = rw (c.map.ensures.base, c.with_min_len.ensures.base, c.map.ensures.f) at c.in_ok-collect.ensures in
    let chain = h.1 in
    rw (← c.into_par_iter.ensures, ← chain.1) (all_made arc_value Page chain.0 h.0 c.in_ok-collect.field-0 chain.2 h.2)

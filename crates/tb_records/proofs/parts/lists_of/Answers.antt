use Rattle.std.proofs.Common.{◌∙◌, ap, ℕ, List, Bor, Global}
use Rattle.std.specs.declared.vec.Vec.{Vec}
use Rattle.std.proofs.lemmas.Result.{IfOk-weaker}
use Rattle.rayon.proofs.ToStd.{slice-AllZip}
use Rattle.tb_base.specs.declared.records.Record.{Record}
use Rattle.tb_records.specs.Lines.{AreLines}
use Rattle.tb_records.proofs.Joining.{all-collected}
use Rattle.tb_records.proofs.parts.lists_of.Goals as goal

pub returns-in-Ok : goal.returns-in-Ok
returns-in-Ok g c =
    let h = c.in-Ok.ensures in
    let chain = h.1 in
    let slice = ap (λ it. it.base.slice.now) c.map.ensures.base ∙ ap (λ it. it.slice.now) c.with_min_len.ensures.base ∙ c.par_iter.ensures in
    let each = rw c.map.ensures.f at chain.2 in
    let Say : Bor (List ℕ) → Vec Record Global → Type 0 = λ part list. AreLines c.args.schema.now c.args.header.now part.now list.items in
    IfOk-weaker c.in-Ok.lists _ _ (λ lists each. slice-AllZip chain.0 c.args.parts.now (chain.1 ∙ slice) Say lists.items each)
    (all-collected (λ (z : Bor (Bor (List ℕ))) list. Say z.now list) chain.0 h.0 c.in-Ok.lists each h.2)

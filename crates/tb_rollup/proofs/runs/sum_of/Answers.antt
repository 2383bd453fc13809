use Rattle.std.proofs.Common.{ℕ, ◌+◌, ◌%◌, ap, sym, ◌∙◌}
use Rattle.std.specs.List.{sum_by, range_with_len}
use Rattle.tb_base.specs.Parts.{part, part_at, modulus}
use Rattle.tb_base.proofs.PartLemmas.{empty-part}
use Rattle.tb_rollup.proofs.Added.{one-cell}
use Rattle.tb_cube.proofs.Walks.{sum-next}
use Rattle.tb_rollup.proofs.runs.sum_of.Goals as goal

pub loop-r-init : goal.loop-r-init
loop-r-init c = λ p. ap (λ x. x % modulus p) (ap (part p) c.empty-sum.ensures ∙ empty-part p)

pub loop-r-preserved : goal.loop-r-preserved
loop-r-preserved c = λ p.
    let f : ℕ → ℕ = λ e. part_at p c.args.all.now (c.args.from + e) in
    one-cell (modulus p) (sum_by f (range_with_len 0 c.loop-r.r)) (part p c.loop-r.sum) (part p c.add.new.self) (f c.loop-r.r)
    (c.loop-r.invariant p) (c.add.ensures.parts p)
    ∙ ap (λ x. x % modulus p) (sym (sum-next f c.loop-r.r))

use Rattle.std.proofs.Common.{ℕ, ◌≡◌, ◌+◌, ◌-◌, ◌*◌, ◌<◌, ◌∙◌, refl, subst, inl, arith}
use Rattle.std.specs.List.{sum_by, range_with_len}
use Rattle.tb_base.specs.Parts.{part_at, modulus}
use Rattle.tb_grid.specs.Signs.{IsSigned}
use Rattle.tb_grid.proofs.Rows.{row-before, one-row}
use Rattle.tb_grid.proofs.totals.signed_rows.Goals as goal

pub loop-e-preserved : goal.loop-e-preserved
loop-e-preserved c = record {
  place = refl;
  last = λ p r below.
      let from : ℕ = c.args.start + c.loop-e.e * c.args.m + r in
      let before : from < c.args.start + (c.args.n - 1) * c.args.m = omega
      (arith, row-before c.args.n c.args.m c.loop-e.e r (omega arith) below) in
      one-row c.args.sign (modulus p) (λ k. part_at p c.args.cells.now (c.args.start + k * c.args.m + r)) c.loop-e.e _ _ _ _
      (c.loop-e.invariant.last p r below) (c.signed_row.ensures.row p r below) (c.loop-e.invariant.rest p from (inl before));
  rest = λ p i where'. c.signed_row.ensures.rest p i where' ∙ c.loop-e.invariant.rest p i where';
}

pub returns-clause-last : goal.returns-clause-last
returns-clause-last c = λ p r below.
    let done : c.loop-e.e ≡ c.args.n - 1 = omega arith in
    subst (λ (e : ℕ). IsSigned c.args.sign (modulus p)
    (sum_by (λ k. part_at p c.args.cells.now (c.args.start + k * c.args.m + r)) (range_with_len 0 e))
    (part_at p c.args.cells.now (c.args.start + (c.args.n - 1) * c.args.m + r))
    (part_at p c.loop-e.cells (c.args.start + (c.args.n - 1) * c.args.m + r))) done (c.loop-e.invariant.last p r below)

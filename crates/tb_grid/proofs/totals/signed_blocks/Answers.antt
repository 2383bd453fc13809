use Rattle.std.proofs.Common.{ℕ, ◌≡◌, ◌+◌, ◌-◌, ◌*◌, ◌<◌, ◌≤◌, ◌∙◌, sym, refl, inl, inr, arith}
use Rattle.std.proofs.lemmas.Bool.{cases_lt, cases_order}
use Rattle.tb_base.specs.Parts.{modulus}
use Rattle.tb_grid.proofs.Sums.{sum-range}
use Rattle.tb_grid.proofs.Rows.{block-before, row-before, block-after, one-block, same-sign}
use Rattle.tb_grid.proofs.totals.signed_blocks.Goals as goal

pub loop-block-preserved : goal.loop-block-preserved
loop-block-preserved c =
    let n : ℕ = c.args.n in
    let m : ℕ = c.args.m in
    let b : ℕ = c.loop-block.block in
    let next : (b + 1) * (n * m) ≡ b * (n * m) + n * m = one-block b (n * m) in
    record {
      last = λ p o r before below.
          let at : ℕ → ℕ = λ x. x * (n * m) + (n - 1) * m + r in
          elim (cases_lt o b) [
            | inl h ↦
                let low : at o < b * (n * m) = block-before o b n m (n - 1) r h (omega arith) below in
                same-sign c.args.sign (modulus p) refl refl (sym (c.signed_rows.ensures.rest p (at o) (inl (omega arith))))
                (c.loop-block.invariant.last p o r h below)
            | inr h ↦
                let here : o ≡ b = omega arith in
                let was = λ (i : ℕ) (after : b * (n * m) ≤ i). c.loop-block.invariant.later p i after in
                rw here (same-sign c.args.sign (modulus p)
                (sum-range _ _ 0 (n - 1) (λ e _. was (b * (n * m) + e * m + r) (omega arith))) (was (at b) (omega arith)) refl
                (c.signed_rows.ensures.last p r below))
          ];
      rest = λ p o q r before below.
          let i : ℕ = o * (n * m) + q * m + r in
          let inner = row-before n m q r before below in
          c.signed_rows.ensures.rest p i (elim (cases_order o b) [
            | inl h ↦ inl (rw h (omega arith))
            | inr h ↦ elim h [
              | inl k ↦ let low : i < b * (n * m) = block-before o b n m q r k (omega arith) below in inl (omega arith)
              | inr k ↦ inr (omega (arith, block-after b o (n * m) k))
            ]
          ]) ∙ c.loop-block.invariant.rest p o q r before below;
      later = λ p i after. c.signed_rows.ensures.rest p i (inr (omega arith)) ∙ c.loop-block.invariant.later p i (omega arith);
    }

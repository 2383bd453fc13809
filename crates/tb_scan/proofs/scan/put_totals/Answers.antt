use Rattle.std.proofs.Common.{◌≡◌, ℕ, List, true, false, ◌%◌, ◌<◌, length, ap, sym, ◌∙◌, arith}
use Rattle.std.proofs.Math.Nat.{mod-mod}
use Rattle.tb_base.specs.declared.cells.Cell.{Cell}
use Rattle.tb_model.specs.RowMajor.{product}
use Rattle.tb_base.specs.Parts.{modulus, part_at, weight}
use Rattle.tb_grid.proofs.Sums.{total-zero}
use Rattle.tb_plan.specs.Plans.{sizes}
use Rattle.tb_grid.proofs.Reached.{plain-value, total-value}
use Rattle.tb_scan.proofs.Scans.{number_of}
use Rattle.tb_base.proofs.PartLemmas.{reduced-below}
use Rattle.tb_scan.proofs.Holding.{counted-plan, held-part}
use Rattle.tb_scan.proofs.scan.put_totals.Goals as goal
use Rattle.tb_scan.proofs.scan.put_totals.Goals.{then-totals, else-totals}

pub returns : goal.returns
returns c = λ schema query records is fit few held.
    let long : length c.reduce_keys.new.cells ≡ length c.args.cells.now = c.reduce_keys.auto.cells ∙ c.if-totals.auto.cells in
    counted-plan c.args.plan.now records c.reduce_keys.new.cells c.cells.ensures.plan (long ∙ c.requires) fit few
    (λ p i below.
    let ns : List ℕ = sizes c.args.plan.now in
    let before : i < length c.args.cells.now = omega (arith, below, long) in
    let low : i < product ns = omega (arith, before, c.requires) in
    let here : i < length c.if-totals.cells = omega (arith, below, c.reduce_keys.auto.cells) in
    let mid : ℕ = part_at p c.if-totals.cells i in
    let small : mid % modulus p < modulus p = reduced-below p mid in
    c.reduce_keys.ensures p i here ∙ elim c.if-totals.branch [
      | then-totals w ↦
          let totals : c.args.plan.now.totals ≡ true = sym c.totals.ensures ∙ w.if-totals.true in
          total-value ns (number_of c.args.plan.now) (λ r. weight p r.key) records i low c.args.plan.now.totals (modulus p) 0
          (mid % modulus p) (λ _. 0) (part_at p c.args.cells.now) totals
          (ap (λ x. x % modulus p) (sym (total-zero ns i)))
          (λ j h. held-part c.args.plan.now p records j (part_at p c.args.cells.now j) (held p j (omega (arith, h, c.requires))))
          (mod-mod mid (modulus p) ∙ ap (λ (cells : List Cell). part_at p cells i % modulus p) w.cells-is ∙ w.add_totals.ensures p i before) small
      | else-totals w ↦
          let totals : c.args.plan.now.totals ≡ false = sym c.totals.ensures ∙ w.if-totals.false in
          plain-value ns (number_of c.args.plan.now) (λ r. weight p r.key) records i low c.args.plan.now.totals (modulus p) 0
          (mid % modulus p) totals
          (mod-mod mid (modulus p) ∙ ap (λ (cells : List Cell). part_at p cells i % modulus p) w.cells-is ∙ held-part c.args.plan.now p records i (part_at p c.args.cells.now i) (held p i before)) small
    ]) schema query is

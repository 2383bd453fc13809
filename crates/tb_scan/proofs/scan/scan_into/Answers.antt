use Rattle.std.proofs.Common.{◌≡◌, ℕ, List, true, false, ◌%◌, ◌<◌, length, ap, sym, ◌∙◌, arith}
use Rattle.std.proofs.Math.Nat.{mod-mod}
use Rattle.tb_base.specs.declared.cells.Cell.{Cell}
use Rattle.tb_model.specs.RowMajor.{product}
use Rattle.tb_base.specs.Parts.{modulus, part_at, weight}
use Rattle.tb_plan.specs.Plans.{sizes}
use Rattle.tb_grid.proofs.Reached.{plain-value, total-value}
use Rattle.tb_scan.proofs.Scans.{number_of, scanned-plan}
use Rattle.tb_base.proofs.PartLemmas.{reduced-below}
use Rattle.tb_scan.proofs.scan.scan_into.Goals as goal
use Rattle.tb_scan.proofs.scan.scan_into.Goals.{then-totals, else-totals}

pub returns : goal.returns
returns c =
    let long : length c.reduce_keys.new.cells ≡ length c.args.cells.now = c.reduce_keys.auto.cells ∙ c.if-totals.auto.cells in
    scanned-plan c.args.plan.now c.args.piece.now c.args.cells.now c.reduce_keys.new.cells c.cells.ensures.plan c.requires.fit c.requires.long long c.requires.room
    (λ p i below.
    let ns : List ℕ = sizes c.args.plan.now in
    let low : i < product ns = omega (arith, below, c.requires.long) in
    let there : i < length c.if-totals.cells = omega (arith, below, c.if-totals.auto.cells) in
    let mid : ℕ = part_at p c.if-totals.cells i in
    let small : mid % modulus p < modulus p = reduced-below p mid in
    c.reduce_keys.ensures p i there ∙ elim c.if-totals.branch [
      | then-totals w ↦
          let totals : c.args.plan.now.totals ≡ true = sym c.totals.ensures ∙ w.if-totals.true in
          let taken : length w.take_totals.new.cells ≡ length c.args.cells.now = w.take_totals.auto.cells in
          let put : length w.put_all.new.cells ≡ length w.take_totals.new.cells = w.put_all.auto.cells in
          total-value ns (number_of c.args.plan.now) (λ r. weight p r.key) c.args.piece.now i low c.args.plan.now.totals (modulus p)
          (part_at p c.args.cells.now i) (mid % modulus p) (part_at p w.take_totals.new.cells)
          (part_at p w.put_all.new.cells) totals
          (w.take_totals.ensures p i below) (λ j h. w.put_all.ensures.put p j (omega (arith, h, taken, c.requires.long)))
          (mod-mod mid (modulus p) ∙ ap (λ (cells : List Cell). part_at p cells i % modulus p) w.cells-is ∙ w.add_totals.ensures p i (omega (arith, below, taken, put))) small
      | else-totals w ↦
          let totals : c.args.plan.now.totals ≡ false = sym c.totals.ensures ∙ w.if-totals.false in
          plain-value ns (number_of c.args.plan.now) (λ r. weight p r.key) c.args.piece.now i low c.args.plan.now.totals (modulus p)
          (part_at p c.args.cells.now i) (mid % modulus p) totals
          (mod-mod mid (modulus p) ∙ ap (λ (cells : List Cell). part_at p cells i % modulus p) w.cells-is ∙ w.put_all-else-totals.ensures.put p i below) small
    ])

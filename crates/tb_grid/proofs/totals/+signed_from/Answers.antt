use Rattle.std.proofs.Common.{ℕ, ◌≡◌, ◌+◌, ◌-◌, ◌*◌, ◌%◌, List, length, drop, get_or, refl, sym, arith}
use Rattle.tb_base.specs.declared.cells.Cell.{Cell}
use Rattle.tb_base.specs.Parts.{part_at, modulus}
use Rattle.tb_model.specs.RowMajor.{product}
use Rattle.tb_grid.specs.Totals.{total_at}
use Rattle.tb_grid.proofs.Blocks.{at-end, none-signed, split, totals-step}
use Rattle.tb_grid.proofs.Rows.{with-last}
use Rattle.tb_grid.proofs.totals.+signed_from.Goals as goal

pub returns-then-d-sizes : goal.returns-then-d-sizes
returns-then-d-sizes t c = λ p o r before below.
    let ns : List ℕ = drop c.args.d c.args.sizes.now in
    none-signed c.args.sign (λ (new old : List Cell). part_at p new (o * product ns + r) % modulus p ≡ total_at ns
    (λ j. part_at p old (o * product ns + j)) r % modulus p) c.args.cells.now
    (at-end c.args.sizes.now c.args.d (part_at p c.args.cells.now) (modulus p) o r (omega arith) below)

pub overflow_mul-blocks : goal.overflow_mul-blocks
overflow_mul-blocks t c = omega (
  arith,
  (split c.args.sizes.now c.args.d c.args.blocks (length c.args.cells.now) (omega arith)
      c.requires.some c.requires.whole c.requires.few).room,
)

pub overflow_mul-blocks-in-Minus : goal.overflow_mul-blocks-in-Minus
overflow_mul-blocks-in-Minus t c = omega (
  arith,
  (split c.args.sizes.now c.args.d c.args.blocks (length c.args.cells.now) (omega arith)
      c.requires.some c.requires.whole c.requires.few).room,
)

pub signed_blocks-requires-clause-some : goal.signed_blocks-requires-clause-some
signed_blocks-requires-clause-some t c = (split c.args.sizes.now c.args.d c.args.blocks (length c.args.cells.now) (omega arith)
    c.requires.some c.requires.whole c.requires.few).here.some

pub signed_blocks-requires-in-Minus-clause-some : goal.signed_blocks-requires-in-Minus-clause-some
signed_blocks-requires-in-Minus-clause-some t c = (split c.args.sizes.now c.args.d c.args.blocks (length c.args.cells.now) (omega arith)
    c.requires.some c.requires.whole c.requires.few).here.some

pub signed_from-requires : goal.signed_from-requires
signed_from-requires t c =
    let s = split c.args.sizes.now c.args.d c.args.blocks (length c.args.cells.now) (omega arith) c.requires.some c.requires.whole
    c.requires.few in
    (omega arith, (omega arith, (c.requires.some, (c.requires.places, (s.whole, s.some)))))

pub signed_from-requires-in-Minus : goal.signed_from-requires-in-Minus
signed_from-requires-in-Minus t c =
    let s = split c.args.sizes.now c.args.d c.args.blocks (length c.args.cells.now) (omega arith) c.requires.some c.requires.whole
    c.requires.few in
    (omega arith, (omega arith, (c.requires.some, (c.requires.places, (omega (arith, s.whole, c.signed_blocks-in-Minus.auto.cells), s.some)))))

pub returns-in-Plus : goal.returns-in-Plus
returns-in-Plus t c = rw c.in-Plus.is (λ p o r before below.
    let s = split c.args.sizes.now c.args.d c.args.blocks (length c.args.cells.now) (omega arith) c.requires.some c.requires.whole
    c.requires.few in
    let n : ℕ = get_or c.args.sizes.now c.args.d 0 in
    let m : ℕ = c.places_from-m.result in
    let mid : ℕ → ℕ = part_at p c.signed_from.new.cells in
    totals-step c.args.sizes.now c.args.d c.args.blocks (modulus p) m (part_at p c.args.cells.now) mid (part_at p c.signed_blocks.new.cells)
    s.here c.places_from-m.ensures.places
    (c.signed_from.ensures p)
    (λ o r before below. with-last (modulus p) n (λ e. mid (o * (n * m) + e * m + r)) (λ e. mid (o * (n * m) + e * m + r))
    (part_at p c.signed_blocks.new.cells (o * (n * m) + (n - 1) * m + r)) s.here.some (λ e _. refl)
    (c.signed_blocks.ensures.last p o r before below))
    (c.signed_blocks.ensures.rest p) o r before below)

pub returns-in-Minus : goal.returns-in-Minus
returns-in-Minus t c = rw c.in-Minus.is (λ p o r before below.
    let s = split c.args.sizes.now c.args.d c.args.blocks (length c.args.cells.now) (omega arith) c.requires.some c.requires.whole
    c.requires.few in
    let n : ℕ = get_or c.args.sizes.now c.args.d 0 in
    let m : ℕ = c.places_from-m.result in
    let mid : ℕ → ℕ = part_at p c.signed_blocks-in-Minus.new.cells in
    let old : ℕ → ℕ = part_at p c.args.cells.now in
    totals-step c.args.sizes.now c.args.d c.args.blocks (modulus p) m (part_at p c.signed_from-in-Minus.new.cells) mid old s.here
    c.places_from-m.ensures.places
    (c.signed_from-in-Minus.ensures p)
    (λ o r before below. with-last (modulus p) n (λ e. mid (o * (n * m) + e * m + r)) (λ e. old (o * (n * m) + e * m + r))
    (old (o * (n * m) + (n - 1) * m + r)) s.here.some (λ e low. sym (c.signed_blocks-in-Minus.ensures.rest p o e r before low below))
    (c.signed_blocks-in-Minus.ensures.last p o r before below))
    (λ o q r before row below. sym (c.signed_blocks-in-Minus.ensures.rest p o q r before row below)) o r before below)

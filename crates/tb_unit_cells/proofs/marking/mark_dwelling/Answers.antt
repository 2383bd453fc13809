use Rattle.std.proofs.Common.{◌≡◌, ◌+◌, ◌-◌, ℕ, List, get_or, length, subst, ap, arith}
use Rattle.tb_model.specs.Units.{PairValue}
use Rattle.tb_marks.specs.Marks.{AreMarked}
use Rattle.tb_marks.proofs.Marking.{marked-same}
use Rattle.tb_units.specs.Pairs.{pair_at}
use Rattle.tb_unit_cells.specs.Marking.{leads, link_leads}
use Rattle.tb_unit_cells.proofs.Along.{along-below, along-end, along-more, along-start, last-below}
use Rattle.tb_unit_cells.proofs.marking.mark_dwelling.Goals as goal

pub loop-k-init : goal.loop-k-init
loop-k-init c =
    along-start c.args.units.now.links (pair_at c.args.units.now.dwellings c.args.d).0 (link_leads c.args.sizes.now (length c.args.cells.now) c.args.numbers.now) (c.args.d + 1) (pair_at c.args.units.now.dwellings c.args.d).1
    c.args.seen.now c.args.cells.now c.last_link-k.result c.last_link-k.ensures

pub offset_bounds-numbers-k : goal.offset_bounds-numbers-k
offset_bounds-numbers-k c =
    let below = along-below c.args.units.now.links (pair_at c.args.units.now.dwellings c.args.d).0 (link_leads c.args.sizes.now (length c.args.cells.now) c.args.numbers.now) (c.args.d + 1) (pair_at c.args.units.now.dwellings c.args.d).1
    c.args.seen.now c.args.cells.now c.loop-k.k c.loop-k.seen c.loop-k.cells c.loop-k.invariant in
    omega (arith, below, c.soundness.ensures.few_links)

pub bounds-numbers-k : goal.bounds-numbers-k
bounds-numbers-k c =
    let below = along-below c.args.units.now.links (pair_at c.args.units.now.dwellings c.args.d).0 (link_leads c.args.sizes.now (length c.args.cells.now) c.args.numbers.now) (c.args.d + 1) (pair_at c.args.units.now.dwellings c.args.d).1
    c.args.seen.now c.args.cells.now c.loop-k.k c.loop-k.seen c.loop-k.cells c.loop-k.invariant in
    omega (arith, below, c.requires.numbers, c.loop-k-test.true)

pub link_before-k-requires : goal.link_before-k-requires
link_before-k-requires c =
    let below = along-below c.args.units.now.links (pair_at c.args.units.now.dwellings c.args.d).0 (link_leads c.args.sizes.now (length c.args.cells.now) c.args.numbers.now) (c.args.d + 1) (pair_at c.args.units.now.dwellings c.args.d).1
    c.args.seen.now c.args.cells.now c.loop-k.k c.loop-k.seen c.loop-k.cells c.loop-k.invariant in
    omega (arith, below, c.loop-k-test.true)

pub loop-k-smaller : goal.loop-k-smaller
loop-k-smaller c =
    let links : List PairValue = c.args.units.now.links in
    omega (arith, c.link_before-k.ensures, last-below links (pair_at links (c.loop-k.k - 1)).1 (c.loop-k.k - 1), c.loop-k-test.true)

pub loop-k-preserved : goal.loop-k-preserved
loop-k-preserved c =
    let sizes : List ℕ = c.args.sizes.now in
    let numbers : List ℕ = c.args.numbers.now in
    let places : ℕ = length c.args.cells.now in
    let x : ℕ = get_or numbers (c.loop-k.k - 1) 0 in
    let m : AreMarked (λ i. link_leads sizes places numbers i (c.loop-k.k - 1)) (c.args.d + 1) (pair_at c.args.units.now.dwellings c.args.d).1 c.loop-k.seen c.loop-k.cells c.mark_number.new.seen c.mark_number.new.cells =
    subst (λ key. AreMarked (λ i. link_leads sizes places numbers i (c.loop-k.k - 1)) (c.args.d + 1) key c.loop-k.seen c.loop-k.cells c.mark_number.new.seen c.mark_number.new.cells) c.key-key.ensures
    (marked-same (leads sizes (length c.loop-k.cells) x) (λ i. link_leads sizes places numbers i (c.loop-k.k - 1)) (c.args.d + 1) c.key-key.result c.loop-k.seen c.mark_number.new.seen c.loop-k.cells c.mark_number.new.cells
    (λ i _. ap (λ n. leads sizes n x i) c.loop-k.auto.cells) c.mark_number.ensures) in
    along-more c.args.units.now.links (pair_at c.args.units.now.dwellings c.args.d).0 (link_leads sizes places numbers) (c.args.d + 1) (pair_at c.args.units.now.dwellings c.args.d).1
    c.args.seen.now c.args.cells.now c.loop-k.k c.link_before-k.result c.loop-k.seen c.mark_number.new.seen c.loop-k.cells c.mark_number.new.cells c.loop-k.invariant c.loop-k-test.true c.mark_number.auto.cells m c.link_before-k.ensures

pub returns : goal.returns
returns c =
    let none : c.loop-k.k ≡ 0 = omega (arith, c.loop-k-test.false) in
    along-end c.args.units.now.links (pair_at c.args.units.now.dwellings c.args.d).0 (link_leads c.args.sizes.now (length c.args.cells.now) c.args.numbers.now) (c.args.d + 1) (pair_at c.args.units.now.dwellings c.args.d).1
    c.args.seen.now c.args.cells.now c.loop-k.k c.loop-k.seen c.loop-k.cells c.loop-k.invariant none

use Rattle.std.proofs.Common.{◌≡◌, ◌<◌, ◌∙◌, ℕ, List, length, get_or, subst, ap, sym, arith}
use Rattle.std.specs.Prelude.{flat_map}
use Rattle.std.proofs.lemmas.List.{get_or-replicate, length-replicate}
use Rattle.tb_base.specs.Cells.{empty_cell}
use Rattle.tb_grid.specs.Totals.{AreSome}
use Rattle.tb_plan.specs.Plans.{place_count}
use Rattle.tb_marks.specs.Raised.{AreRaised}
use Rattle.tb_unit_cells.specs.Noting.{number_in, AreNoted}
use Rattle.tb_unit_cells.specs.Totals.{total_sizes}
use Rattle.tb_unit_cells.proofs.Homes.{finished}
use Rattle.tb_unit_cells.proofs.counting.count_lent.Goals as goal

pub count_numbered-requires-clause-ups : goal.count_numbered-requires-clause-ups
count_numbered-requires-clause-ups c =
    let long : length c.args.cells.now ≡ place_count c.args.plan.now = ap length c.requires.empty ∙ length-replicate (place_count c.args.plan.now) empty_cell in
    subst (λ (n : ℕ). AreRaised (total_sizes c.args.plan.now) n c.args.ups.now) (sym long) c.requires.ups

pub count_numbered-requires-clause-none : goal.count_numbered-requires-clause-none
count_numbered-requires-clause-none c = λ i below.
    let low : i < place_count c.args.plan.now = omega (arith, below, ap length c.requires.seen, length-replicate {A = ℕ} (place_count c.args.plan.now) 0) in
    ap (λ (ns : List ℕ). get_or ns i 0) c.requires.seen ∙ get_or-replicate {A = ℕ} (place_count c.args.plan.now) i 0 0 low

pub returns : goal.returns
returns c =
    finished c.args.plan.now c.args.units.now (flat_map (λ p. p) c.args.lent.now) c.note_numbers.new.numbers c.args.cells.now c.count_numbered.new.cells
    c.cells.ensures.plan (subst AreSome c.sizes.ensures.sizes c.sizes.ensures.some) c.requires.distinct c.requires.fit c.soundness.ensures.few_dwellings c.requires.empty c.count_numbered.auto.cells
    (subst (λ (old : List ℕ). AreNoted (number_in c.args.plan.now) c.args.units.now.links (flat_map (λ p. p) c.args.lent.now) old c.note_numbers.new.numbers) c.requires.numbers c.note_numbers.ensures)
    c.count_numbered.ensures

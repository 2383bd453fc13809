use Rattle.std.proofs.Common.{◌≡◌, ◌∙◌, ◌≤◌, ◌++◌, ℕ, List, ap, subst, sym, take, drop, length, arith}
use Rattle.std.proofs.lemmas.List.{take_at}
use Rattle.std.proofs.lemmas.Result.{IfOk-weaker}
use Rattle.std.specs.Arc.{arc_value}
use Rattle.std.specs.Prelude.{All}
use Rattle.tb_base.specs.Rules.{RulesValue}
use Rattle.tb_base.specs.declared.cells.Cell.{Cell}
use Rattle.tb_base.specs.declared.people.TheConstants.{MOST_PERSONS}
use Rattle.tb_model.specs.Rules.{pvalues_in}
use Rattle.tb_model.specs.Texts.{text_of_cells}
use Rattle.tb_model.specs.Units.{homes_cells}
use Rattle.tb_tables.proofs.FewCells.{few-homes-cells}
use Rattle.tb_tables.proofs.homes.homes_table.Goals as goal

pub of-requires-clause-few : goal.of-requires-clause-few
of-requires-clause-few g c =
    let schema = c.args.setup.now.schema in
    let query = c.args.query.now in
    let is = take_at c.units_into.new.cells _ c.in_ok-cells.cells.len (omega (arith, c.units_into.auto.cells, c.deref_mut.ensures.len, c.in_ok-cells.cells.ok))
    ∙ c.in_ok-units_into.ensures.counted schema query c.in_ok-plan.ensures in
    subst (λ (cs : List Cell). All (λ cell. cell.count ≤ MOST_PERSONS) cs) (sym is)
    (few-homes-cells c.args.units.now schema query c.args.release.now.records (omega (arith, c.soundness.ensures.few_dwellings)))

pub returns-clause-text : goal.returns-clause-text
returns-clause-text g c =
    let setup = c.args.setup.now in
    let query = c.args.query.now in
    let release = c.args.release.now in
    let text : RulesValue → ℕ → List Cell → List ℕ = λ rules. text_of_cells setup.schema (pvalues_in setup rules) rules.threshold query in
    let cells : List Cell = take c.in_ok-cells.cells.len (c.units_into.new.cells ++ drop (length c.units_into.new.cells) c.in_ok-cells.cells.items) in
    let is : cells ≡ homes_cells c.args.units.now setup.schema query release.records =
    take_at c.units_into.new.cells _ c.in_ok-cells.cells.len (omega (arith, c.units_into.auto.cells, c.deref_mut.ensures.len, c.in_ok-cells.cells.ok))
    ∙ c.in_ok-units_into.ensures.counted setup.schema query c.in_ok-plan.ensures in
    let shown : text (arc_value c.in_ok-rules.rules) c.number.result cells ≡ text release.rules release.number (homes_cells c.args.units.now setup.schema query release.records) =
    ap (λ rules. text rules c.number.result cells) c.in_ok-rules.ensures
    ∙ ap (λ n. text release.rules n cells) c.number.ensures
    ∙ ap (λ cs. text release.rules release.number cs) is in
    IfOk-weaker c.of.result _ _ (λ made h. h ∙ shown) c.of.ensures

-- The text of what was counted over a release.
use Rattle.std.proofs.Common.{◌≡◌, ◌≤◌, ◌∙◌, refl, ℕ, List, ap, subst, sym}
use Rattle.std.specs.Arc.{arc_value}
use Rattle.std.specs.Prelude.{All}
use Rattle.tb_base.specs.Rules.{RulesValue}
use Rattle.tb_base.specs.declared.cells.Cell.{Cell}
use Rattle.tb_base.specs.declared.people.TheConstants.{MOST_PERSONS}
use Rattle.tb_model.specs.Queries.{QueryValue}
use Rattle.tb_model.specs.Releases.{ReleaseValue}
use Rattle.tb_model.specs.Rules.{pvalues_in}
use Rattle.tb_model.specs.Setups.{SetupValue}
use Rattle.tb_model.specs.Texts.{table_text, text_of_cells}
use Rattle.tb_plan.specs.Plans.{plan_of}
use Rattle.tb_tables.specs.Counting.{IsCounted}
use Rattle.tb_tables.specs.declared.count.Counted.{Counted}
use Rattle.tb_release.proofs.FewRecords.{few_persons}
use Rattle.tb_tables.proofs.FewCells.{few-cells}

module _ (setup : SetupValue) (release : ReleaseValue) (query : QueryValue) (counted : Counted) (h : IsCounted (plan_of setup.schema query) release counted) where
  -- no cell counts more persons than the release has
  pub few_counted : All (λ cell. cell.count ≤ MOST_PERSONS) counted.cells.items
  few_counted =
      subst (λ (cs : List Cell). All (λ cell. cell.count ≤ MOST_PERSONS) cs) (sym (h.cells setup.schema query refl)) (few-cells setup.schema query release.records (few_persons release h.sound))

  -- the text of the cells is that of the table
  pub counted_text : text_of_cells setup.schema (pvalues_in setup (arc_value counted.rules)) (arc_value counted.rules).threshold query counted.number counted.cells.items ≡ table_text setup release query
  counted_text =
      let text : RulesValue → ℕ → List Cell → List ℕ = λ rules. text_of_cells setup.schema (pvalues_in setup rules) rules.threshold query in
      ap (λ rules. text rules counted.number counted.cells.items) h.rules
      ∙ ap (λ n. text release.rules n counted.cells.items) h.number
      ∙ ap (λ cs. text release.rules release.number cs) (h.cells setup.schema query refl)

-- The rules by which a table at a release is shown.
use Rattle.std.specs.Prelude.{ℕ, ℤ, List, unwrap_or}
use Rattle.tb_base.specs.Rules.{RulesValue, pvalue_set}
use Rattle.tb_model.specs.declared.names.PerturbationLine.{PerturbationLine}
use Rattle.tb_model.specs.Perturbations.{by_sum, pvalue_at}
use Rattle.tb_model.specs.Releases.{ReleaseValue}
use Rattle.tb_model.specs.Setups.{SetupValue}

-- the pvalue at each row and cell key by a perturbation table and some rules: the one that was set
-- there, else the one that the table lists, else 0
abbrev pub pvalues_by : List PerturbationLine → RulesValue → ℕ → ℕ → ℤ
pvalues_by lines rules row ckey =
    unwrap_or (pvalue_set rules.pvalues row ckey) (pvalue_at lines row ckey)

-- the same at a release
abbrev pub cell_pvalues_of : SetupValue → ReleaseValue → ℕ → ℕ → ℤ
cell_pvalues_of setup release = pvalues_by setup.lines release.rules

-- the pvalue at each row and key sum, by the setup's key range and its perturbation table and some
-- rules
abbrev pub pvalues_in : SetupValue → RulesValue → ℕ → ℕ → ℤ
pvalues_in setup rules = by_sum setup.schema.keys (pvalues_by setup.lines rules)

-- the same at a release
abbrev pub pvalues_of : SetupValue → ReleaseValue → ℕ → ℕ → ℤ
pvalues_of setup release = pvalues_in setup release.rules

-- the threshold at a release, below which no perturbed count is shown
abbrev pub threshold_of : ReleaseValue → ℕ
threshold_of release = release.rules.threshold

-- The law of rules: what is set is found.
use Rattle.std.specs.Prelude.{◌≡◌, ℕ, ℤ, ◌==◌, ◌&&◌, if◌then◌else◌, Some}
use Rattle.tb_base.specs.Rules.{RulesValue, pvalue_set, with_pvalue}

-- a pvalue that is set is the one that is found at its row and its cell key, and at every other row
-- or cell key what is found stays
abbrev pub SetIsFound : Type 0
SetIsFound =
    (rules : RulesValue) (row key : ℕ) (pvalue : ℤ) (r k : ℕ)
    → pvalue_set (with_pvalue rules row key pvalue).pvalues r k
    ≡ (if (r == row) && (k == key) then Some pvalue else pvalue_set rules.pvalues r k)

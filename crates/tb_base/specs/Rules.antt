-- The rules by which a release is shown.
use Rattle.std.specs.Prelude.{ℕ, ℤ, pos, ◌≤◌, ◌<◌, ◌+ℤ◌, ◌≤ℤ◌, ◌==◌, ◌&&◌, if◌then◌else◌, refl}
use Rattle.std.specs.Prelude.{List, [], ◌∷◌, Option, Some, None, Bool, nat_le, nat_lt, int_le}
use Rattle.std.specs.List.{AllByRecursion}
use Rattle.std.specs.Coded.{Coded, code_by, coded×, coded_ℕ, coded_ℤ, coded_list}
use Rattle.std.specs.Ordering.{nat_cmp, ordering_then}
use Rattle.std.specs.declared.cmp.Ordering.{Ordering}
use Rattle.std.specs.BTreeMap.{insert_entry}
use Rattle.tb_base.specs.declared.keys.TheConstants.{MOST_KEYS}
use Rattle.tb_base.specs.declared.limits.TheConstants.{LEAST_PVALUE, MOST_PVALUE, LAST_ROW}

-- a pvalue that was set, with its place: its row and its cell key
abbrev pub SetPvalue : Type 0
SetPvalue = (ℕ × ℕ) × ℤ

-- the threshold, the number of the oldest release that is shown, and the pvalues that were set, in
-- ascending order of their places
pub record RulesValue : Type 0 where
  pub threshold : ℕ
  pub oldest : ℕ
  pub pvalues : List SetPvalue

-- rules with a threshold alone: no release was taken back, and no pvalue set
abbrev pub first_rules : ℕ → RulesValue
first_rules threshold = record { threshold = threshold; oldest = 0; pvalues = [] }

-- how rules are coded, for a type whose value holds them
abbrev pub rules_code : Coded RulesValue
rules_code =
    code_by (ℕ × (ℕ × List SetPvalue))
    (coded× coded_ℕ (coded× coded_ℕ (coded_list (coded× (coded× coded_ℕ coded_ℕ) coded_ℤ))))
    (λ r. (r.threshold, (r.oldest, r.pvalues)))
    (λ p. record { threshold = p.0; oldest = p.1.0; pvalues = p.1.1 })
    (λ _. refl)

-- a pvalue may be set at a row and a cell key: all three are in range, and it leaves no count
-- negative
pub record MayBeSet (row key : ℕ) (pvalue : ℤ) : Type 0 where
  pub first : 1 ≤ row
  pub last : row ≤ LAST_ROW
  pub below : key < MOST_KEYS
  pub least : LEAST_PVALUE ≤ℤ pvalue
  pub most : pvalue ≤ℤ MOST_PVALUE
  pub safe : pos 0 ≤ℤ (pos row +ℤ pvalue)

-- each that was set may be
abbrev pub AreSet : List SetPvalue → Type 0
AreSet pvalues = AllByRecursion (λ s. MayBeSet s.0.0 s.0.1 s.1) pvalues

-- the pvalue that was set at a row and a cell key, if one was
abbrev pub pvalue_set : List SetPvalue → ℕ → ℕ → Option ℤ
pvalue_set [] row key = None
pvalue_set (s ∷ ss) row key =
    if (row == s.0.0) && (key == s.0.1) then Some s.1 else pvalue_set ss row key

-- places are in order by row, and then by cell key
abbrev pub place_order : ℕ × ℕ → ℕ × ℕ → Ordering
place_order a b = ordering_then (nat_cmp a.0 b.0) (nat_cmp a.1 b.1)

-- rules with the pvalue at a row and a cell key set: it takes the place of the one that was set
-- there, or comes to its place in the order
abbrev pub with_pvalue : RulesValue → ℕ → ℕ → ℤ → RulesValue
with_pvalue rules row key pvalue =
    record rules { pvalues = insert_entry place_order rules.pvalues (row, key) pvalue }

-- rules with another threshold
abbrev pub with_threshold : RulesValue → ℕ → RulesValue
with_threshold rules value = record rules { threshold = value }

-- rules by which the releases before this one are taken back
abbrev pub with_oldest : RulesValue → ℕ → RulesValue
with_oldest rules oldest = record rules { oldest = oldest }

-- the test of what may be set: whether a pvalue may be set at a row and a cell key
abbrev pub can_be_set : ℕ → ℕ → ℤ → Bool
can_be_set row key pvalue =
    nat_le 1 row && (nat_le row LAST_ROW && (nat_lt key MOST_KEYS
    && (int_le LEAST_PVALUE pvalue && (int_le pvalue MOST_PVALUE
    && int_le (pos 0) (pos row +ℤ pvalue)))))

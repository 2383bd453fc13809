-- Tests: whether a record and edits fit a shape, and edits of the rules are in range.
use Rattle.std.specs.Prelude.{ℕ, ◌&&◌, Bool, true, false, List, [], ◌∷◌, length, nat_lt, nat_le}
use Rattle.std.specs.Prelude.{slice_index}
use Rattle.std.specs.List.{list_all}
use Rattle.tb_base.specs.declared.keys.TheConstants.{MOST_KEYS}
use Rattle.tb_base.specs.declared.limits.TheConstants.{MOST_THRESHOLD}
use Rattle.tb_base.specs.Rules.{can_be_set}
use Rattle.tb_release.specs.declared.edits.Edit.{Edit}
use Rattle.tb_release.specs.declared.edits.Edit.TheVariants.{Add, Drop, Amend, Pvalue}
use Rattle.tb_release.specs.declared.edits.Edit.TheVariants.{Oldest, Threshold}

-- whether there is one category of each variable, and one that the variable has
abbrev pub codes_fit : List ℕ → List ℕ → Bool
codes_fit [] [] = true
codes_fit [] (c ∷ codes) = false
codes_fit (n ∷ shape) [] = false
codes_fit (n ∷ shape) (c ∷ codes) = nat_lt c n && codes_fit shape codes

-- whether a record with this key and these categories fits a shape
abbrev pub record_fits : List ℕ → ℕ → List ℕ → Bool
record_fits shape key codes = nat_lt key MOST_KEYS && codes_fit shape codes

-- whether a setting is of a variable of the shape, and of a category that it has
abbrev pub setting_fits : List ℕ → ℕ × ℕ → Bool
setting_fits shape s = nat_lt s.0 (length shape) && nat_lt s.1 (slice_index shape s.0)

-- whether what an edit adds or sets fits a shape, or, if it is one of the rules, is in range
abbrev pub edit_fits : List ℕ → Edit → Bool
edit_fits shape (Add person key codes) = record_fits shape key codes
edit_fits shape (Drop person) = true
edit_fits shape (Amend person sets) = list_all (setting_fits shape) sets
edit_fits shape (Pvalue row key pvalue) = can_be_set row key pvalue
edit_fits shape (Threshold value) = nat_le value MOST_THRESHOLD
edit_fits shape (Oldest oldest) = true

-- whether that of each edit does
abbrev pub edits_fit : List ℕ → List Edit → Bool
edits_fit shape edits = list_all (edit_fits shape) edits

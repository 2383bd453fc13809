-- The array in which a perturbation table keeps its pvalues: for each cell key a slot for each row.
use Rattle.std.specs.Prelude.{◌≡◌, ◌+ℤ◌, ◌≤ℤ◌, ◌+◌, ◌*◌, ◌≤◌, ℕ, ℤ, pos, List, length, get_or}
use Rattle.std.specs.Prelude.{Option, Some, None, is_some, unwrap_or, count_by, if◌then◌else◌}
use Rattle.std.specs.Ordering.{int_eq}
use Rattle.tb_model.specs.declared.names.PerturbationLine.{PerturbationLine}
use Rattle.tb_base.specs.declared.limits.TheConstants.{LAST_ROW, MOST_PVALUE}
use Rattle.tb_ptable.specs.declared.slots.TheConstants.{MOST_SLOTS, NO_PVALUE}
use Rattle.tb_ptable.specs.Lines.{pvalue_in}

-- where the slot of a row and a cell key stands in the array
abbrev pub slot_index : ℕ → ℕ → ℕ
slot_index row key = (LAST_ROW + 1) * key + row

-- the pvalue that a slot has, if it has one
abbrev pub pvalue_of : ℤ → Option ℤ
pvalue_of slot = if int_eq slot NO_PVALUE then None else Some slot

-- the pvalue in the slot of a row and a cell key, if there is one; none is past the last slot
abbrev pub pvalue_in_slot : List ℤ → ℕ → ℕ → Option ℤ
pvalue_in_slot slots row key = pvalue_of (get_or slots (slot_index row key) NO_PVALUE)

-- how many slots of an array have a pvalue
abbrev pub pair_count : List ℤ → ℕ
pair_count slots = count_by (λ slot. is_some (pvalue_of slot)) slots

-- what a pvalue at a row must be: it leaves no count negative, and is within the limit
abbrev pub IsPvalueAt : ℕ → ℤ → Type 0
IsPvalueAt row pvalue = (pos 0 ≤ℤ (pos row +ℤ pvalue)) × (pvalue ≤ℤ MOST_PVALUE)

-- the slots of these lines: for each row and cell key the pvalue that they list, and none that must
-- not be
pub record AreSlots (lines : List PerturbationLine) (slots : List ℤ) : Type 0 where
  pub few : length slots ≤ MOST_SLOTS
  pub count : pair_count slots ≡ length lines
  pub pvalues :
      (row key : ℕ) → row ≤ LAST_ROW → pvalue_in_slot slots row key ≡ pvalue_in lines row key
  pub safe :
      (row key : ℕ) → row ≤ LAST_ROW
      → IsPvalueAt row (unwrap_or (pvalue_in_slot slots row key) (pos 0))

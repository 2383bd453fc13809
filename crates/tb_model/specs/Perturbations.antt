-- The perturbation table, and what is shown for a cell.
use Rattle.std.specs.Prelude.{ℕ, ◌+◌, ◌-◌, ◌%◌, ◌==◌, ◌&&◌, nat_le, if◌then◌else◌}
use Rattle.std.specs.Prelude.{ℤ, pos, ◌+ℤ◌, int_lt, nat_abs}
use Rattle.std.specs.Prelude.{List, Option, Some, None, find, codes, decimal}
use Rattle.std.specs.Option.{option_map_or}
use Rattle.tb_base.specs.declared.cells.Cell.{Cell}
use Rattle.tb_base.specs.declared.keys.Keys.{Keys}
use Rattle.tb_base.specs.Keys.{ckey_of}
use Rattle.tb_model.specs.declared.names.PerturbationLine.{PerturbationLine}
use Rattle.tb_base.specs.declared.limits.TheConstants.{LAST_ROW}
use Rattle.tb_model.specs.declared.rows.TheConstants.{LARGE_ROWS, LARGE_ROWS_BEGIN}
use Rattle.tb_model.specs.declared.names.Shown.{Shown}
use Rattle.tb_model.specs.declared.names.Shown.TheVariants.{Number, Suppressed}

-- the row of the perturbation table for a count: rows 501 to 750 serve all larger counts again and
-- again
abbrev pub row_of_count : ℕ → Option ℕ
row_of_count count =
    if count == 0 then None
    else if nat_le count LAST_ROW then Some count
    else Some (LARGE_ROWS_BEGIN + (count - 1) % LARGE_ROWS)

-- the pvalue that the table lists at a row and a cell key, and 0 where it lists none
abbrev pub pvalue_at : List PerturbationLine → ℕ → ℕ → ℤ
pvalue_at lines row ckey =
    option_map_or (λ line. line.pvalue)
    (find (λ line. (line.pcv == row) && (line.ckey == ckey)) lines) (pos 0)

-- the pvalues at each row and key sum, of those at each row and cell key: the cell key is the sum
-- modulo the key range
abbrev pub by_sum : Keys → (ℕ → ℕ → ℤ) → ℕ → ℕ → ℤ
by_sum keys pvalues row sum = pvalues row (ckey_of keys sum)

-- the perturbation of a count and a cell key, by the pvalue at each row and cell key, or of a count
-- and a key sum, by that at each row and key sum; an empty cell has none
abbrev pub perturbation : (ℕ → ℕ → ℤ) → ℕ → ℕ → ℤ
perturbation pvalues count key =
    option_map_or (λ row. pvalues row key) (row_of_count count) (pos 0)

-- a cell's count with its perturbation, by the pvalue at each row and key sum
abbrev pub perturbed : (ℕ → ℕ → ℤ) → Cell → ℤ
perturbed pvalues cell = pos cell.count +ℤ perturbation pvalues cell.count cell.key

-- what is shown for a cell: the perturbed count, unless it is below the threshold
abbrev pub shown : (ℕ → ℕ → ℤ) → ℕ → Cell → Shown
shown pvalues threshold cell =
    if int_lt (perturbed pvalues cell) (pos threshold) then Suppressed
    else Number (nat_abs (perturbed pvalues cell))

-- its text
abbrev pub shown_text : Shown → List ℕ
shown_text (Number v) = decimal v
shown_text Suppressed = codes "c"

-- Edits read from their bytes.
use Rattle.std.specs.Prelude.{◌==◌, ◌&&◌, ℕ, Bool, true, List, [], ◌∷◌, nat_eq, nat_le, nat_lt, not}
use Rattle.std.specs.Prelude.{Option, None, if◌then◌else◌}
use Rattle.std.specs.Int.{w16, w32}
use Rattle.std.specs.List.{list_any}
use Rattle.tb_release.specs.declared.edits.Edit.{Edit}
use Rattle.tb_release.specs.declared.edits.Edit.TheVariants.{Add, Drop, Amend, Pvalue}
use Rattle.tb_release.specs.declared.edits.Edit.TheVariants.{Oldest, Threshold}
use Rattle.tb_release.specs.declared.limits.TheConstants.{MOST_EDITS}
use Rattle.tb_spelling.specs.Fields.{Reader, counted_at, made_at, number_at, pair_at, signed_at}
use Rattle.tb_spelling.specs.Fields.{tested_at, whole}
use Rattle.tb_spelling.specs.Payloads.{variables_set}

-- whether no number stands twice
abbrev pub are_distinct : List ℕ → Bool
are_distinct [] = true
are_distinct (n ∷ numbers) = not (list_any (nat_eq n) numbers) && are_distinct numbers

abbrev pub codes_at : Reader (List ℕ)
codes_at = counted_at (number_at w16) (number_at w16)

-- some settings, of which no two set the same variable
abbrev pub sets_at : Reader (List (ℕ × ℕ))
sets_at =
    tested_at (λ sets. are_distinct (variables_set sets))
    (counted_at (tested_at (nat_lt 0) (number_at w16)) (pair_at (number_at w16) (number_at w16)))

abbrev pub add_at : Reader Edit
add_at =
    made_at (λ x. Add x.0 x.1.0 x.1.1)
    (pair_at (number_at w32) (pair_at (number_at w16) codes_at))

abbrev pub drop_at : Reader Edit
drop_at = made_at (λ person. Drop person) (number_at w32)

abbrev pub amend_at : Reader Edit
amend_at = made_at (λ x. Amend x.0 x.1) (pair_at (number_at w32) sets_at)

abbrev pub pvalue_at : Reader Edit
pvalue_at =
    made_at (λ x. Pvalue x.0 x.1.0 x.1.1)
    (pair_at (number_at w16) (pair_at (number_at w16) signed_at))

abbrev pub threshold_at : Reader Edit
threshold_at = made_at (λ value. Threshold value) (number_at w32)

abbrev pub oldest_at : Reader Edit
oldest_at = made_at (λ oldest. Oldest oldest) (number_at w32)

-- an edit is a byte for its kind, and then its fields
abbrev pub edit_at : Reader Edit
edit_at [] = None
edit_at (kind ∷ fields) =
    if kind == 1 then add_at fields
    else if kind == 2 then drop_at fields
    else if kind == 3 then amend_at fields
    else if kind == 4 then pvalue_at fields
    else if kind == 5 then threshold_at fields
    else if kind == 6 then oldest_at fields
    else None

-- whether there are some edits, and not too many
abbrev pub is_count : ℕ → Bool
is_count count = nat_lt 0 count && nat_le count MOST_EDITS

-- the edits of a payload
abbrev pub edits_in : List ℕ → Option (List Edit)
edits_in bytes = whole (counted_at (tested_at is_count (number_at w32)) edit_at) bytes

-- The record of a classification whose variable is `*` and whose code is `persons`: it states how
-- many persons there may be at most.
use Rattle.std.specs.Prelude.{◌≡◌, ◌≤◌, ◌&&◌, ℕ, List, [], codes, get_or, nat_le}
use Rattle.std.specs.Prelude.{Option, Some, None, option_and_then, if◌then◌else◌}
use Rattle.tb_base.specs.Numbers.{number_of}
use Rattle.tb_base.specs.declared.people.TheConstants.{MOST_PERSONS}
use Rattle.tb_model.specs.Schemas.{VariableValue}

-- a number that may be stated: from 1 to the most
abbrev pub limit_within : ℕ → Option ℕ
limit_within n = if nat_le 1 n && nat_le n MOST_PERSONS then Some n else None

-- the limit that such a record states by its label, if it does
abbrev pub limit_of : List ℕ → Option ℕ
limit_of label = option_and_then limit_within (number_of label)

-- a label is a number from 1 to the most
abbrev pub IsLimit : List ℕ → Type 0
IsLimit label = (n : ℕ) × ((number_of label ≡ Some n) × ((1 ≤ n) × (n ≤ MOST_PERSONS)))

-- a record, by its variable, code and label, is refused for its limit beside the limit and the
-- variables so far: its variable is `*` and its code `persons`, and there is a limit or a variable,
-- or its label is none of a limit
abbrev pub HasBadPersons : Option ℕ → List VariableValue → List (List ℕ) → Type 0
HasBadPersons limit variables fields =
    (get_or fields 0 [] ≡ codes "*") × ((get_or fields 1 [] ≡ codes "persons")
    × ¬ ((variables ≡ []) × ((limit ≡ None) × IsLimit (get_or fields 2 []))))

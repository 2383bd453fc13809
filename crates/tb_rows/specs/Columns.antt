-- Where the columns of a file stand in its header.
use Rattle.std.specs.Prelude.{◌≢◌, ◌⊎◌, ◌+◌, ℕ, List, [], ◌∷◌, map, Option, Some, None, bytes_eq, count_by, get_or, if◌then◌else◌}
use Rattle.tb_base.specs.Lists.{all_some}

-- the indices of the fields that are a name, where the first field has index i
abbrev pub indices_from : List ℕ → ℕ → List (List ℕ) → List ℕ
indices_from name i [] = []
indices_from name i (field ∷ fields) =
    if bytes_eq field name then i ∷ indices_from name (i + 1) fields
    else indices_from name (i + 1) fields

-- the only one of a list
abbrev pub the_only : List ℕ → Option ℕ
the_only [] = None
the_only (i ∷ []) = Some i
the_only (i ∷ j ∷ more) = None

-- the index of a name in a header, if the name stands there exactly once
abbrev pub only_index : List ℕ → List (List ℕ) → Option ℕ
only_index name header = the_only (indices_from name 0 header)

-- the indices of names in a header, if each of them stands there exactly once
abbrev pub indices_of : List (List ℕ) → List (List ℕ) → Option (List ℕ)
indices_of names header = all_some (map (λ name. only_index name header) names)

-- the fields of a record at these indices, in this order
abbrev pub fields_at : List ℕ → List (List ℕ) → List (List ℕ)
fields_at indices fields = map (λ i. get_or fields i []) indices

-- a header's number of fields, and the index of each column in it
pub record HeaderValue : Type 0 where
  pub width : ℕ
  pub indices : List ℕ

-- a name is missing in a header, or stands there more than once
abbrev pub IsNotOnce : List ℕ → List (List ℕ) → Type 0
IsNotOnce name header = count_by (λ field. bytes_eq field name) header ≢ 1

-- one of these names is missing in a header, or stands there more than once
abbrev pub LacksOneOf : List (List ℕ) → List (List ℕ) → Type 0
LacksOneOf [] header = ⊥
LacksOneOf (name ∷ names) header = IsNotOnce name header ⊎ LacksOneOf names header

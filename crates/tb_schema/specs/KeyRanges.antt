-- The record of a classification whose variable is `*`: it states the key range.
use Rattle.std.specs.Prelude.{◌≡◌, ◌==◌, ◌⊎◌, ℕ, List, [], codes, bytes_eq, get_or}
use Rattle.std.specs.Prelude.{Option, Some, None}
use Rattle.std.specs.Prelude.{if◌then◌else◌}
use Rattle.tb_base.specs.declared.keys.Keys.{Keys}
use Rattle.tb_base.specs.declared.keys.Keys.TheVariants.{K256, K4096}

-- the key range that a label is
abbrev pub keys_of : List ℕ → Option Keys
keys_of label =
    if bytes_eq label (codes "256") then Some K256
    else if bytes_eq label (codes "4096") then Some K4096
    else None

-- the key range that such a record states by its code and its label, if it does
abbrev pub stated_by : List ℕ → List ℕ → Option Keys
stated_by code label = if bytes_eq code (codes "keys") then keys_of label else None

-- a label is that of a key range
abbrev pub IsRange : List ℕ → Type 0
IsRange label = (label ≡ codes "256") ⊎ (label ≡ codes "4096")

-- the key range that record n states by its code and its label: the first alone may state one
abbrev pub stated_at : ℕ → List ℕ → List ℕ → Option Keys
stated_at n code label = if n == 1 then stated_by code label else None

-- record n, by its variable, code and label, is refused for its key range: its variable is `*`, its
-- code isn't `persons`, and it isn't record 1, its code isn't `keys`, or its label is none of a key
-- range
abbrev pub HasBadKeys : ℕ → List (List ℕ) → Type 0
HasBadKeys n fields =
    (get_or fields 0 [] ≡ codes "*") × (¬ (get_or fields 1 [] ≡ codes "persons")
    × ¬ ((n ≡ 1) × ((get_or fields 1 [] ≡ codes "keys") × IsRange (get_or fields 2 []))))

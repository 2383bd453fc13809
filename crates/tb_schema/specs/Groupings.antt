-- The groups of a variable's categories, and what one more code in a group makes of them.
use Rattle.std.specs.Prelude.{not, ℕ, List, [], ◌∷◌, ◌++◌, length, replicate, Option, Some, None}
use Rattle.std.specs.Prelude.{Result, Ok, Err, is_some, get_or, slice_set, if◌then◌else◌}
use Rattle.tb_schema.specs.Names.{place_in}
use Rattle.tb_schema.specs.Spelling.{is_code}
use Rattle.tb_schema.specs.declared.fault.SchemaKind.{SchemaKind}
use Rattle.tb_schema.specs.declared.fault.SchemaKind.TheVariants.{BadCode, CodeTwice, UnknownCode}

-- the codes of the groups, and the number of the group of each category that is in one
pub record GroupingValue : Type 0 where
  pub groups : List (List ℕ)
  pub group_of : List (Option ℕ)

-- no groups of so many categories
abbrev pub no_groups : ℕ → GroupingValue
no_groups categories = record { groups = []; group_of = replicate categories None }

-- groups with one that may be new, and its number
abbrev pub with_group : List (List ℕ) → List ℕ → Option ℕ → List (List ℕ) × ℕ
with_group groups group None = (groups ++ group ∷ [], length groups)
with_group groups group (Some g) = (groups, g)

-- the same with a category in the group of that number
abbrev pub with_member : GroupingValue → ℕ → List (List ℕ) × ℕ → GroupingValue
with_member grouping category into =
    record { groups = into.0; group_of = slice_set grouping.group_of category (Some into.1) }

-- the groups with the category of a code in one of them, or the first fault of that
abbrev pub with_code : GroupingValue → List ℕ → Option ℕ → Result GroupingValue SchemaKind
with_code grouping group None = Err UnknownCode
with_code grouping group (Some category) =
    if is_some (get_or grouping.group_of category None) then Err CodeTwice
    else if not (is_code group) then Err BadCode
    else Ok (
    with_member grouping category
    (with_group grouping.groups group (place_in grouping.groups group)))

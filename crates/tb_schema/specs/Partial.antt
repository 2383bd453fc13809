-- What is true of recodes that are being read.
use Rattle.std.specs.Prelude.{◌≡◌, ◌<◌, ◌≤◌, ◌++◌, ℕ, All, IfSome, List, bytes_eq, count_by}
use Rattle.std.specs.Prelude.{is_some, length, sum_by}
use Rattle.std.specs.List.{IsDistinct}
use Rattle.tb_model.specs.Schemas.{VariableValue}
use Rattle.tb_schema.specs.Groupings.{GroupingValue}
use Rattle.tb_schema.specs.Names.{variable_names, nth_variable}
use Rattle.tb_schema.specs.Recodes.{PartialRecode, PartialValue, partial_names}
use Rattle.tb_schema.specs.Sound.{IsVariable}
use Rattle.tb_schema.specs.declared.limits.TheConstants.{MOST_RECODES}

-- how many categories are in a group
abbrev pub member_count : GroupingValue → ℕ
member_count grouping = count_by is_some grouping.group_of

-- groups of so many categories: their codes are distinct, and they are no more than the categories
-- that are in one
pub record IsGrouping (categories : ℕ) (grouping : GroupingValue) : Type 0 where
  pub total : length grouping.group_of ≡ categories
  pub groups : All (λ o. IfSome o (λ g. g < length grouping.groups)) grouping.group_of
  pub codes : IsDistinct bytes_eq grouping.groups
  pub few : length grouping.groups ≤ member_count grouping

-- a recode has at least one group, of categories of a variable that there is
pub record IsPartialOf (variables : List VariableValue) (r : PartialRecode) : Type 0 where
  pub variable : r.variable < length variables
  pub grouping : IsGrouping (length (nth_variable variables r.variable).categories) r.grouping
  pub some : 1 ≤ length r.grouping.groups

-- the names of variables and recodes are together distinct, and there are not too many recodes
pub record ArePartial (so_far : PartialValue) : Type 0 where
  pub names :
      IsDistinct bytes_eq (variable_names so_far.variables ++ partial_names so_far.recodes)
  pub few : length so_far.recodes ≤ MOST_RECODES
  pub variables : All IsVariable so_far.variables
  pub recodes : All (IsPartialOf so_far.variables) so_far.recodes

-- how many records there are so far: each puts one category into a group
abbrev pub record_count : PartialValue → ℕ
record_count so_far = sum_by (λ r. member_count r.grouping) so_far.recodes

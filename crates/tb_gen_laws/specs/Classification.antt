-- What the generated microdata need of a schema.
use Rattle.std.specs.Prelude.{◌≡◌, ℕ, List, [], ◌∷◌, map}
use Rattle.tb_base.specs.declared.keys.Keys.TheVariants.{K256}
use Rattle.tb_gen.specs.Variables.{categories_of, code_of, name_of}
use Rattle.tb_gen.specs.declared.variables.Variable.{Variable}
use Rattle.tb_gen.specs.declared.variables.Variable.TheVariants.{Area, Age, Sex, Tenure}
use Rattle.tb_gen_laws.specs.Ranges.{list_below}
use Rattle.tb_model.specs.Schemas.{SchemaValue}
use Rattle.tb_schema.specs.declared.limits.TheConstants.{MOST_UNSTATED}
use Rattle.tb_schema.specs.Names.{category_codes, variable_names}

-- the variables, in their order
abbrev pub variables : List Variable
variables = Area ∷ Age ∷ Sex ∷ Tenure ∷ []

-- the codes of a variable's categories, in their order
abbrev pub codes_of : Variable → List (List ℕ)
codes_of variable = list_below (categories_of variable) (code_of variable)

-- A schema has the key range of 256 and the variables of the generated files, each with its
-- categories' codes in their order. Labels and recodes may be any.
pub record IsGeneratedSchema (schema : SchemaValue) : Type 0 where
  pub key_range : schema.keys ≡ K256
  pub limit : schema.persons ≡ MOST_UNSTATED
  pub name_list : variable_names schema.variables ≡ map name_of variables
  pub code_lists : map category_codes schema.variables ≡ map codes_of variables

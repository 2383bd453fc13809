-- What the generated classification and recodes say: computed from their texts.
use Rattle.std.proofs.Common.{◌≡◌, ◌∙◌, ap, refl}
use Rattle.std.specs.Prelude.{ℕ, ◌/◌, List, [], ◌∷◌, ◌++◌, Ok, Some, codes, decimal, length, map}
use Rattle.std.specs.Fmt.{digits}
use Rattle.std.specs.List.{range_with_len}
use Rattle.std.specs.Str.{chars, is_utf8}
use lib.Utf8.{encode}
use Rattle.csv.proofs.OnLiterals.{csv_on_literals}
use Rattle.tb_base.specs.declared.keys.Keys.TheVariants.{K256}
use Rattle.tb_gen.specs.Generated.{generated_classes, generated_recodes}
use Rattle.tb_gen.specs.Lines.{each_below}
use Rattle.tb_gen.specs.Variables.{name_of}
use Rattle.tb_gen_laws.specs.Classification.{IsGeneratedSchema, codes_of, variables}
use Rattle.tb_gen_laws.specs.Ranges.{list_below}
use Rattle.tb_model.specs.Schemas.{CategoryValue, RecodeValue, SchemaValue, VariableValue}
use Rattle.tb_schema.specs.Classes.{classes_of}
use Rattle.tb_schema.specs.declared.limits.TheConstants.{MOST_UNSTATED}
use Rattle.tb_rows.specs.Formats.{and_then}
use Rattle.tb_schema.specs.Recodes.{recodes_of, schema_of, with_recodes_of}

-- `unfolding texts_on_literals` computes the texts and what they say
unfoldable texts_on_literals : Unit {0}
unfolding digits chars encode is_utf8 csv_on_literals each_below list_below
texts_on_literals = tt

-- a category whose code is its label too
abbrev category : List ℕ → CategoryValue
category code = record { code = code; label = code }

abbrev variable : List ℕ → List (List ℕ) → VariableValue
variable name codes = record { name = name; categories = map category codes }

abbrev said : List VariableValue
said = map (λ v. variable (name_of v) (codes_of v)) variables

-- the decades of the ages
abbrev decades : RecodeValue
decades = record {
  name = codes "AGE10";
  variable = 1;
  groups = map (λ g. codes "g" ++ decimal g) (range_with_len 0 11);
  group_of = map (λ age. age / 10) (range_with_len 0 101);
}

-- without recodes, and with them
abbrev plain_schema : SchemaValue
plain_schema = record { keys = K256; persons = MOST_UNSTATED; variables = said; recodes = [] }

abbrev pub whole_schema : SchemaValue
whole_schema = record { keys = K256; persons = MOST_UNSTATED; variables = said; recodes = decades ∷ [] }

classes-say : classes_of generated_classes ≡ Ok plain_schema
unfolding texts_on_literals
classes-say = refl

recodes-say : recodes_of plain_schema generated_recodes ≡ Ok (decades ∷ [])
unfolding texts_on_literals
recodes-say = refl

pub schema-said : schema_of generated_classes (Some generated_recodes) ≡ Ok whole_schema
schema-said =
    ap (λ r. and_then r (λ schema. with_recodes_of schema generated_recodes)) classes-say
    ∙ ap (λ r. and_then r (λ rs. Ok (record plain_schema { recodes = rs }))) recodes-say

pub schema-is : IsGeneratedSchema whole_schema
unfolding list_below digits
schema-is = record { key_range = refl; limit = refl; name_list = refl; code_lists = refl }

pub classes-short : length generated_classes ≡ 2363
unfolding texts_on_literals
classes-short = refl

pub recodes-short : length generated_recodes ≡ 1635
unfolding texts_on_literals
recodes-short = refl

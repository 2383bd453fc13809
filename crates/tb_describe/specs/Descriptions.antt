-- The reply to a line whose first word is `describe`. Nothing here speaks of the program.
use Rattle.std.specs.Prelude.{◌≡◌, ◌⊎◌, ℕ, Bool, false, List, [], ◌∷◌, bytes_eq, codes, drop}
use Rattle.std.specs.Prelude.{Option, Some, None}
use Rattle.std.specs.Option.{option_map_or}
use Rattle.tb_base.specs.Words.{words_of}
use Rattle.tb_lines.specs.Outputs.{ReplyValue}
use Rattle.tb_model.specs.declared.names.NameOf.{NameOf}
use Rattle.tb_model.specs.Schemas.{SchemaValue}
use Rattle.tb_query.specs.Bytes.{first_not_text}
use Rattle.tb_query.specs.declared.fault.QueryFault.TheVariants as faults
use Rattle.tb_schema.specs.Names.{name_in}
use Rattle.tb_tables.specs.ReplyLines.{memory_line}
use Rattle.tb_tables.specs.ReplyTexts.{fault_text}
use Rattle.tb_describe.specs.Lists.{categories_text, names_text}

-- whether the first of some words is `describe`
abbrev pub begins_description : List (List ℕ) → Bool
begins_description [] = false
begins_description (word ∷ words) = bytes_eq word (codes "describe")

-- whether the first word of a line is `describe`
abbrev pub is_description : List ℕ → Bool
is_description line = begins_description (words_of line)

-- the text for the second word: what is under that name, if it is one
abbrev pub text_of_name : SchemaValue → Option NameOf → List ℕ
text_of_name schema (Some of) = categories_text schema of
text_of_name schema None = fault_text (faults.UnknownName 2)

-- the text by the words after `describe`: there may be one
abbrev pub text_of_words : SchemaValue → List (List ℕ) → List ℕ
text_of_words schema [] = names_text schema
text_of_words schema (name ∷ []) = text_of_name schema (name_in schema name)
text_of_words schema (name ∷ next ∷ words) = fault_text (faults.Syntax 3)

-- the text of the reply, which goes by the schema and the line alone
abbrev pub description : SchemaValue → List ℕ → List ℕ
description schema line =
    option_map_or (λ i. fault_text (faults.NotText i)) (first_not_text line)
    (text_of_words schema (drop 1 (words_of line)))

-- a line gets this text, or that memory was refused
abbrev pub Describes : SchemaValue → List ℕ → List ℕ → Type 0
Describes schema line text = (text ≡ description schema line) ⊎ (text ≡ memory_line)

-- a reply to such a line, which costs nothing
abbrev pub IsDescription : SchemaValue → List ℕ → ReplyValue → Type 0
IsDescription schema line reply = (reply.price ≡ 0) × Describes schema line reply.text

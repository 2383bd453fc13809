-- The text of a reply to a line that describes, as the program keeps it.
use Rattle.std.specs.Prelude.{ℕ, List}
use Rattle.tb_describe.specs.declared.description.Description.{Description}
use Rattle.tb_describe.specs.declared.description.Description.TheVariants as descriptions
use Rattle.tb_tables.specs.ReplyTexts.{fault_text}

abbrev pub description_text : Description → List ℕ
description_text (descriptions.List text) = text.items
description_text (descriptions.Refused fault) = fault_text fault

-- The lines that replies to a query's line may be, but for tables.
use Rattle.std.specs.Prelude.{◌++◌, ℕ, List, [], codes, decimal, Option, Some, None}
use Rattle.tb_rows.specs.FaultNames.{FaultNameValue}

-- where memory is refused
abbrev pub memory_line : List ℕ
memory_line = codes "memory\n"

abbrev pub position_text : Option ℕ → List ℕ
position_text None = []
position_text (Some i) = codes " " ++ decimal i

-- a query that is refused: the number and the word of its first fault, and the position, if the
-- fault has one
abbrev pub refusal_line : FaultNameValue → Option ℕ → List ℕ
refusal_line name position =
    codes "refused " ++ decimal name.number ++ codes " " ++ name.word ++ position_text position
    ++ codes "\n"

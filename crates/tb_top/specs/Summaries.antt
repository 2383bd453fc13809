-- What the text of some replies comes to.
use Rattle.std.specs.Prelude.{ℕ, ◌==◌, ◌%◌, ◌^◌, List, ◌++◌, length, sum, count_by, codes, decimal}
use Rattle.tb_command.specs.Populations.{Population}

-- how many line feeds a text has
abbrev pub line_feeds : List ℕ → ℕ
line_feeds text = count_by (λ byte. byte == 10) text

-- the sum of a text's byte values, modulo 2^32
abbrev pub byte_sum : List ℕ → ℕ
byte_sum text = sum text % 2 ^ 32

-- the line that sums up the replies over a generated population: their text's line feeds, its
-- bytes, and the sum of their values
abbrev pub summary_line : Population → List ℕ → List ℕ
summary_line population text =
    codes "gen " ++ decimal population.persons ++ codes " " ++ decimal population.start
    ++ codes " lines " ++ decimal (line_feeds text) ++ codes " bytes " ++ decimal (length text)
    ++ codes " sum " ++ decimal (byte_sum text) ++ codes "\n"

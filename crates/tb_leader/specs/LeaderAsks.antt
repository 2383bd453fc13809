-- What a line of the leader's asks for.
use Rattle.std.specs.Prelude.{◌&&◌, ℕ, if◌then◌else◌, List, [], ◌∷◌, bytes_eq, codes, decimal, nat_le}
use Rattle.std.specs.Prelude.{Option, Some, None}
use Rattle.tb_base.specs.Numbers.{number_of}
use Rattle.tb_base.specs.Words.{words_of}
use Rattle.tb_lines.specs.Lines.{is_passed_over}
use Rattle.tb_revise.specs.Grammar.{begins_edit}
use Rattle.tb_leader.specs.declared.asks.LeaderAsks.{LeaderAsks}
use Rattle.tb_leader.specs.declared.asks.LeaderAsks.TheVariants as asks

-- what a word alone asks for
abbrev pub asks_of_word : List ℕ → LeaderAsks
asks_of_word word =
    if bytes_eq word (codes "end") then asks.End
    else if bytes_eq word (codes "restart") then asks.Restart
    else asks.Other

-- the message of a number from 1 on may be begun, where the word spells it without leading zeros
abbrev pub begin_by : List ℕ → Option ℕ → LeaderAsks
begin_by word None = asks.Other
begin_by word (Some n) =
    if nat_le 1 n && bytes_eq word (decimal n) then asks.Begin n else asks.Other

abbrev pub asks_of_number : List ℕ → LeaderAsks
asks_of_number word = begin_by word (number_of word)

-- what two words ask for
abbrev pub asks_of_two : List ℕ → List ℕ → LeaderAsks
asks_of_two word next =
    if bytes_eq word (codes "begin") then asks_of_number next else asks.Other

-- what words ask for that are no edit
abbrev pub asks_of_command : List (List ℕ) → LeaderAsks
asks_of_command [] = asks.Other
asks_of_command (word ∷ []) = asks_of_word word
asks_of_command (word ∷ next ∷ []) = asks_of_two word next
asks_of_command (word ∷ next ∷ more ∷ words) = asks.Other

-- what the words of a line ask for
abbrev pub asks_of_words : List (List ℕ) → LeaderAsks
asks_of_words [] = asks.Other
asks_of_words (word ∷ words) =
    if begins_edit word then asks.Edit else asks_of_command (word ∷ words)

-- what a line asks for: nothing where it is of blanks alone or begins with `#`
abbrev pub asks_of : List ℕ → LeaderAsks
asks_of line = if is_passed_over line then asks.Nothing else asks_of_words (words_of line)

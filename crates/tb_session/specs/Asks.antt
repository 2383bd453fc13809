-- What a party's line asks for.
use Rattle.std.specs.Prelude.{◌&&◌, ◌==◌, ◌<◌, ◌≤◌, ℕ, Bool, false, if◌then◌else◌}
use Rattle.std.specs.Prelude.{List, [], ◌∷◌, bytes_eq, codes, nat_le}
use Rattle.std.specs.Prelude.{Option, Some, None}
use Rattle.std.specs.Option.{option_map_or}
use Rattle.tb_base.specs.Numbers.{number_of}
use Rattle.tb_base.specs.Words.{words_of}
use Rattle.tb_cache.specs.declared.TheConstants.{MOST_ENTRIES}
use Rattle.tb_describe.specs.Descriptions.{is_description}
use Rattle.tb_revise.specs.Grammar.{begins_edit}
use Rattle.tb_session.specs.PastLines.{past_number}
use Rattle.tb_session.specs.declared.asks.Asks.{Asks}
use Rattle.tb_session.specs.declared.asks.Asks.TheVariants as asks
use Rattle.tb_session.specs.declared.party.Role.{Role}
use Rattle.tb_session.specs.declared.party.Role.TheVariants as role
use Rattle.tb_lines.specs.Lines.{is_passed_over}

-- whether a word begins with the digit zero
abbrev pub begins_with_zero : List ℕ → Bool
begins_with_zero [] = false
begins_with_zero (c ∷ word) = c == 48

-- whether so many cubes may be kept: 1 to 256
abbrev pub may_keep : ℕ → Bool
may_keep k = nat_le 1 k && nat_le k MOST_ENTRIES

-- a capacity, as a word gives it: a number without leading zeros of cubes that may be kept
abbrev pub capacity_within : Option ℕ → Option ℕ
capacity_within None = None
capacity_within (Some k) = if may_keep k then Some k else None

abbrev pub capacity_in : List ℕ → Option ℕ
capacity_in word = if begins_with_zero word then None else capacity_within (number_of word)

-- what a word alone asks for
abbrev pub asks_of_word : List ℕ → Asks
asks_of_word word =
    if bytes_eq word (codes "publish") then asks.Publish
    else if bytes_eq word (codes "stats") then asks.Stats
    else if bytes_eq word (codes "clear") then asks.Clear
    else asks.Table

-- what two words ask for
abbrev pub asks_of_two : List ℕ → List ℕ → Asks
asks_of_two word next =
    if bytes_eq word (codes "cache")
    then option_map_or (λ k. asks.Cache k) (capacity_in next) asks.Table
    else asks.Table

-- what words ask for that are no edit
abbrev pub asks_of_command : List (List ℕ) → Asks
asks_of_command [] = asks.Table
asks_of_command (word ∷ []) = asks_of_word word
asks_of_command (word ∷ next ∷ []) = asks_of_two word next
asks_of_command (word ∷ next ∷ more ∷ words) = asks.Table

-- what the words of a custodian's line ask for
abbrev pub asks_of_words : List (List ℕ) → Asks
asks_of_words [] = asks.Table
asks_of_words (word ∷ words) =
    if begins_edit word then asks.Edit else asks_of_command (word ∷ words)

-- what the words of a party's line ask for
abbrev pub asks_by : Role → List (List ℕ) → Asks
asks_by role.Analyst words = asks.Table
asks_by role.Custodian words = asks_of_words words

-- what words ask for: a table at the release whose number they name, and else what goes by who
-- asks
abbrev pub asks_at_or : Option ℕ → Asks → Asks
asks_at_or number other = option_map_or (λ n. asks.At n) number other

-- what a party's line asks for: nothing where it is of blanks alone or begins with `#`; what may be
-- asked where its first word is `describe`; a table at release N where it is `at N QUERY`; the
-- custodian's may be an edit, `publish`, `stats`, `clear` or `cache K`; and every other asks for a
-- table
abbrev pub asks_of : Role → List ℕ → Asks
asks_of who line =
    if is_passed_over line then asks.Nothing
    else if is_description line then asks.Description
    else asks_at_or (past_number (words_of line)) (asks_by who (words_of line))

-- a capacity that is asked for is within its bounds
abbrev pub IsWithin : Asks → Type 0
IsWithin asks.Nothing = Unit {0}
IsWithin asks.Description = Unit {0}
IsWithin asks.Table = Unit {0}
IsWithin (asks.At number) = Unit {0}
IsWithin asks.Edit = Unit {0}
IsWithin asks.Publish = Unit {0}
IsWithin asks.Stats = Unit {0}
IsWithin asks.Clear = Unit {0}
IsWithin (asks.Cache k) = (0 < k) × (k ≤ MOST_ENTRIES)

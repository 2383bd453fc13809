-- Where a file may be cut, so that its records are those of its parts, one after another.
use Rattle.std.specs.Prelude.{◌≡◌, ◌≢◌, ℕ, List, ◌∷◌, ◌++◌, All, flat_map}
use Rattle.std.specs.Borrow.{Bor}
use Rattle.csv.specs.Machine.{line_feed}
use Rattle.csv.specs.Writing.{quote_mark}
use Rattle.tb_rows.specs.Records.{records_of}

-- no byte of a text is a quote
abbrev pub HasNoQuote : List ℕ → Type 0
HasNoQuote bytes = All (λ b. b ≢ quote_mark) bytes

-- The records of a file with a line feed before which no quote stands are those of what stands
-- before it, and then those of what begins with it.
abbrev pub CutsAtLineFeeds : Type 0
CutsAtLineFeeds =
    (before after : List ℕ) → HasNoQuote before
    → records_of (before ++ line_feed ∷ after)
    ≡ records_of before ++ records_of (line_feed ∷ after)

-- the records of some texts, one after another
abbrev pub all_records : List (Bor (List ℕ)) → List (List (List ℕ))
all_records parts = flat_map (λ part. records_of part.now) parts

-- The reply to a line `at N QUERY`: its table, or why it is refused, and its price. Nothing here
-- speaks of the program.
use Rattle.std.specs.Prelude.{◌+◌, ◌*◌, ◌∷◌, ℕ, List, [], length, max, nat_lt, if◌then◌else◌}
use Rattle.tb_release.specs.Revised.{release_at}
use Rattle.tb_lines.specs.Outputs.{ReplyValue}
use Rattle.tb_model.specs.Queries.{QueryValue}
use Rattle.tb_model.specs.Releases.{ReleaseValue}
use Rattle.tb_model.specs.Setups.{SetupValue}
use Rattle.tb_release.specs.Batches.{BatchValue}
use Rattle.tb_release.specs.Chains.{after_batch, release_after}
use Rattle.tb_session.specs.ReplyLines.{no_such_release_line, withdrawn_line}
use Rattle.tb_tables.specs.Answers.{IsAnswerBy, free_reply, table_reply}

-- how many records the longest release along a chain has, from the one at which the chain begins
abbrev pub longest : ReleaseValue → List BatchValue → ℕ
longest release [] = length release.records
longest release (batch ∷ chain) =
    max (length release.records) (longest (after_batch release batch) chain)

-- how many records a table of a release of a chain may cost: as many as the longest release has,
-- and twice the changes that led to the last one
abbrev pub past_price : ReleaseValue → List BatchValue → ℕ
past_price base chain = longest base chain + 2 * (release_after base chain).changes

-- the number of the oldest release of a chain that is shown: its last release tells it
abbrev pub oldest_of : ReleaseValue → List BatchValue → ℕ
oldest_of base chain = (release_after base chain).rules.oldest

-- a query's table over release n of a chain, at its price
abbrev pub past_table : SetupValue → ReleaseValue → List BatchValue → ℕ → QueryValue → ReplyValue
past_table setup base chain n query =
    table_reply setup (release_at base chain n) (λ _. past_price base chain) query

-- that table; or where the chain is shorter, the line that tells the number of its last release;
-- or where release n was taken back, the line that tells the number of the oldest one that is shown
abbrev pub past_reply : SetupValue → ReleaseValue → List BatchValue → ℕ → QueryValue → ReplyValue
past_reply setup base chain n query =
    if nat_lt (length chain) n then free_reply (no_such_release_line (length chain))
    else if nat_lt n (oldest_of base chain) then free_reply (withdrawn_line (oldest_of base chain))
    else past_table setup base chain n query

-- a reply to a query's line over release n of a chain: its table, or that there is no such release,
-- or that it was taken back; the line of the query's first fault; or that memory was refused
abbrev pub IsPastAnswer : SetupValue → ReleaseValue → List BatchValue → ℕ → List ℕ → ReplyValue
    → Type 0
IsPastAnswer setup base chain n line reply =
    IsAnswerBy setup (past_reply setup base chain n) line reply

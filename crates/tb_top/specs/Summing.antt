-- What is kept of a text that is summed up as it comes.
use Rattle.std.specs.Prelude.{◌≡◌, ◌-◌, ◌^◌, ◌<◌, ℕ, List, length, Option, Some, None}
use Rattle.tb_top.specs.Summaries.{byte_sum, line_feeds}
use Rattle.tb_top.specs.declared.sums.Sums.{Sums}

-- the most bytes that are counted
abbrev pub most_counted : ℕ
most_counted = 2 ^ 64 - 1

-- these are a text's sums; it has none where it has more bytes than are counted
abbrev pub AreSums : Option Sums → List ℕ → Type 0
AreSums None text = most_counted < length text
AreSums (Some sums) text =
    (sums.line_feeds ≡ line_feeds text) × (sums.bytes ≡ length text)
    × (sums.byte_sum ≡ byte_sum text)

-- The lines that replies may be, but for those to queries and to `publish`.
use Rattle.std.specs.Prelude.{◌++◌, ℕ, List, codes, decimal}
use Rattle.tb_core.specs.declared.desk.Stats.{Stats}
use Rattle.tb_rows.specs.FaultNames.{FaultNameValue}

-- a query at a release that isn't there: the number of the last one
abbrev pub no_such_release_line : ℕ → List ℕ
no_such_release_line last = codes "refused 10 NoSuchRelease " ++ decimal last ++ codes "\n"

-- a query at a release that was taken back: the number of the oldest one that is shown
abbrev pub withdrawn_line : ℕ → List ℕ
withdrawn_line oldest = codes "refused 11 Withdrawn " ++ decimal oldest ++ codes "\n"

-- an edit that is held: how many are
abbrev pub held_line : ℕ → List ℕ
held_line count = codes "held " ++ decimal count ++ codes "\n"

-- an edit that is refused: the number and the word of its first fault
abbrev pub edit_refusal_line : FaultNameValue → List ℕ
edit_refusal_line name =
    codes "refused edit " ++ decimal name.number ++ codes " " ++ name.word ++ codes "\n"

-- the numbers of the desk: the current release, how often a cube was looked for and found, how many
-- are kept, and how many may be
abbrev pub stats_line : Stats → List ℕ
stats_line stats =
    codes "stats release " ++ decimal stats.release ++ codes " looks " ++ decimal stats.looks
    ++ codes " hits " ++ decimal stats.hits ++ codes " entries " ++ decimal stats.entries
    ++ codes " capacity " ++ decimal stats.capacity ++ codes "\n"

-- the cubes are forgotten
abbrev pub cleared_line : List ℕ
cleared_line = codes "cleared\n"

-- so many cubes may be kept
abbrev pub capacity_line : ℕ → List ℕ
capacity_line capacity = codes "cache " ++ decimal capacity ++ codes "\n"

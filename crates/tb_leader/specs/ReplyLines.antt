-- The lines that replies to the leader may be, but for that of a batch that is refused.
use Rattle.std.specs.Prelude.{◌++◌, ℕ, List, codes, decimal}
use Rattle.tb_rows.specs.FaultNames.{FaultNameValue}

-- a line of some text and a number
abbrev pub numbered : List ℕ → ℕ → List ℕ
numbered before number = before ++ decimal number ++ codes "\n"

-- a message is begun: its number
abbrev pub begun_line : ℕ → List ℕ
begun_line number = numbered (codes "begun ") number

-- an edit is held: how many the message has
abbrev pub held_line : ℕ → List ℕ
held_line count = numbered (codes "held ") count

-- an edit is refused: the number and the word of its first fault
abbrev pub edit_refusal_line : FaultNameValue → List ℕ
edit_refusal_line name =
    codes "refused edit " ++ decimal name.number ++ codes " " ++ name.word ++ codes "\n"

-- a message was delivered: the number of the release, which rose to it; or stayed, since the
-- message waits, is old, or is too far ahead
abbrev pub at_line : ℕ → List ℕ
at_line number = numbered (codes "at ") number

abbrev pub kept_line : ℕ → List ℕ
kept_line number = numbered (codes "kept ") number

abbrev pub old_line : ℕ → List ℕ
old_line number = numbered (codes "old ") number

abbrev pub far_line : ℕ → List ℕ
far_line number = numbered (codes "far ") number

-- the release is release 0 again
abbrev pub restarted_line : List ℕ
restarted_line = codes "restarted\n"

-- a line that the leader may not send, or for which there is no message
abbrev pub refused_line : List ℕ
refused_line = codes "refused leader\n"

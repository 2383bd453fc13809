-- What a session did: which lines were answered, what was written, and how it ended.
use Rattle.std.specs.Prelude.{◌≡◌, ◌⊎◌, ℕ, ◌+◌, ◌<◌, ◌≤◌, List, [], ◌∷◌, ◌++◌, length, map, take}
use Rattle.std.specs.Prelude.{codes, Option, None, Some}
use Rattle.tb_io.specs.Lines.{without_return}
use Rattle.tb_io.specs.Sources.{Gave, IsAtEnd}
use Rattle.tb_io.specs.Taken.{Took, TookPart}
use Rattle.tb_io.specs.declared.limits.TheConstants.{MOST_LINE_BYTES}
use Rattle.tb_lines.specs.Outputs.{ReplyValue, text_of}
use Rattle.tb_lines.specs.Streams.{after_lines, answered_of, before_end, end_of, lines_of}
use Rattle.tb_lines.specs.Streams.{whole_lines_of}
use Rattle.tb_lines.specs.declared.session_end.SessionEnd.{SessionEnd}
use Rattle.tb_lines.specs.declared.session_end.SessionEnd.TheVariants as session_end
use Rattle.tb_lines.specs.declared.session_end.TheConstants.{MOST_LINES}

-- what is written for a line that is too long
abbrev pub too_long_text : List ℕ
too_long_text = codes "refused 9 TooLong\n"

-- what is written after the last reply
abbrev pub last_words : SessionEnd → List ℕ
last_words session_end.LineTooLong = too_long_text
last_words session_end.Ended = []
last_words session_end.Foreign = []
last_words session_end.TooManyLines = []
last_words session_end.ReadFault = []
last_words session_end.WriteFault = []

-- these are all lines of a source, where it tells what it has left
abbrev pub AreLinesOf : Option (List ℕ) → List (List ℕ) → Type 0
AreLinesOf None lines = Unit {0}
AreLinesOf (Some left) lines = lines ≡ lines_of left

-- these are all whole lines of what a source gave, where it tells what it has left
abbrev pub AreLinesGiven : Option (List ℕ) → Option (List ℕ) → List (List ℕ) → Type 0
AreLinesGiven left now lines =
    (given : List ℕ) × Gave left now given × (lines ≡ whole_lines_of given)

-- a source gave at most so many lines, and after them no more bytes than a line reader may have
-- read ahead, where it tells what it has left
abbrev pub GaveAtMost : Option (List ℕ) → Option (List ℕ) → ℕ → Type 0
GaveAtMost left now lines =
    (given : List ℕ) × Gave left now given
    × (length (after_lines lines given) ≤ MOST_LINE_BYTES + 1)

-- the lines as they are answered
abbrev pub texts_of : List (List ℕ) → List (List ℕ)
texts_of lines = map without_return lines

-- of a session, where it is given which replies to which lines are legal and lead from a state to
-- another; its source had `left` at first and `now` at the end, and its sink had taken `before` and
-- then `after`. However it ends, the source gave no more than the lines that were answered and what
-- a line reader may have read ahead.
module _ {S : Type 0} (Legal : S → List (List ℕ) → List ReplyValue → S → Type 0) where
  -- no fault came: the replies to all lines before the end were taken, and then the last words;
  -- where it ended by no line, nothing is left
  pub record IsWhole (left now : Option (List ℕ)) (end : SessionEnd) (first last : S)
      (before after : Option (List ℕ)) : Type 0 where
    pub lines : List (List ℕ)
    pub of_source : AreLinesOf left lines
    pub is_end : end ≡ end_of lines
    pub at_end : end ≡ session_end.Ended → before_end lines ≡ lines → IsAtEnd now
    pub gave : GaveAtMost left now (length (answered_of lines))
    pub replies : List ReplyValue
    pub legal : Legal first (texts_of (answered_of lines)) replies last
    pub took : Took before after (text_of replies ++ last_words end)

  -- a read failed: the replies to all lines that came whole were taken; none of them ends a
  -- session
  pub record IsBroken (left now : Option (List ℕ)) (first last : S)
      (before after : Option (List ℕ)) : Type 0 where
    pub lines : List (List ℕ)
    pub given : AreLinesGiven left now lines
    pub none_ends : before_end lines ≡ lines
    pub few : length lines < MOST_LINES
    pub gave : GaveAtMost left now (length lines)
    pub replies : List ReplyValue
    pub legal : Legal first (texts_of lines) replies last
    pub took : Took before after (text_of replies)

  -- a write failed in the reply to one of the lines: the replies to those before it were taken, and
  -- a part of it
  pub record IsCut (left now : Option (List ℕ)) (first last : S) (before after : Option (List ℕ))
      : Type 0 where
    pub lines : List (List ℕ)
    pub of_source : AreLinesOf left lines
    pub count : ℕ
    pub among : count ≤ length (answered_of lines)
    pub gave : GaveAtMost left now count
    pub replies : List ReplyValue
    pub cut : ReplyValue
    pub legal : Legal first (texts_of (take count (answered_of lines))) (replies ++ cut ∷ []) last
    pub part : ℕ
    pub took : Took before after (text_of replies ++ take part cut.text)

  -- a write failed in the last words for a line that is too long: the replies to all lines before
  -- it were taken, and a part of these words
  pub record IsCutAtEnd (left now : Option (List ℕ)) (first last : S)
      (before after : Option (List ℕ)) : Type 0 where
    pub lines : List (List ℕ)
    pub of_source : AreLinesOf left lines
    pub is_end : end_of lines ≡ session_end.LineTooLong
    pub gave : GaveAtMost left now (length (answered_of lines))
    pub replies : List ReplyValue
    pub legal : Legal first (texts_of (answered_of lines)) replies last
    pub part : ℕ
    pub took : Took before after (text_of replies ++ take part too_long_text)

-- what a session did, by how it ended
abbrev pub IsSession : {S : Type 0} → (S → List (List ℕ) → List ReplyValue → S → Type 0)
    → SessionEnd → Option (List ℕ) → Option (List ℕ) → S → S → Option (List ℕ)
    → Option (List ℕ) → Type 0
IsSession Legal session_end.Ended left now first last before after =
    IsWhole Legal left now session_end.Ended first last before after
IsSession Legal session_end.Foreign left now first last before after =
    IsWhole Legal left now session_end.Foreign first last before after
IsSession Legal session_end.LineTooLong left now first last before after =
    IsWhole Legal left now session_end.LineTooLong first last before after
IsSession Legal session_end.TooManyLines left now first last before after =
    IsWhole Legal left now session_end.TooManyLines first last before after
IsSession Legal session_end.ReadFault left now first last before after =
    IsBroken Legal left now first last before after
IsSession Legal session_end.WriteFault left now first last before after =
    IsCut Legal left now first last before after ⊎ IsCutAtEnd Legal left now first last before after

-- what became of the refusal of a line that is too long
abbrev pub IsRefused : SessionEnd → Option (List ℕ) → Option (List ℕ) → Type 0
IsRefused session_end.LineTooLong before after = Took before after too_long_text
IsRefused session_end.WriteFault before after = TookPart before after too_long_text
IsRefused session_end.Ended before after = ⊥
IsRefused session_end.Foreign before after = ⊥
IsRefused session_end.TooManyLines before after = ⊥
IsRefused session_end.ReadFault before after = ⊥

-- What the bytes of a stream say to a session: the lines, which of them are answered, and how the
-- session ends.
use Rattle.std.specs.Prelude.{ℕ, zero, suc, Bool, false, ◌||◌, if◌then◌else◌, List, [], ◌∷◌}
use Rattle.std.specs.Prelude.{length, take, nat_eq, nat_le, nat_lt, bytes_eq, codes}
use Rattle.std.specs.List.{ends_with, list_any}
use Rattle.tb_base.specs.Words.{words_of}
use Rattle.tb_io.specs.Lines.{is_line_feed, rest_of, without_return}
use Rattle.tb_io.specs.declared.limits.TheConstants.{MOST_LINE_BYTES}
use Rattle.tb_lines.specs.declared.session_end.SessionEnd.{SessionEnd}
use Rattle.tb_lines.specs.declared.session_end.SessionEnd.TheVariants as session_end
use Rattle.tb_lines.specs.declared.session_end.TheConstants.{MOST_LINES}

-- the lines, with this byte in front of the first; where there is none, it is one
abbrev pub with_first_byte : ℕ → List (List ℕ) → List (List ℕ)
with_first_byte b [] = (b ∷ []) ∷ []
with_first_byte b (line ∷ lines) = (b ∷ line) ∷ lines

-- all lines of some bytes: each line feed ends one, and what follows the last is one where it has a
-- byte
abbrev pub lines_of : List ℕ → List (List ℕ)
lines_of [] = []
lines_of (b ∷ bytes) =
    if is_line_feed b then [] ∷ lines_of bytes else with_first_byte b (lines_of bytes)

-- the lines, with this byte in front of the first, if there is one
abbrev pub with_first_byte_if_any : ℕ → List (List ℕ) → List (List ℕ)
with_first_byte_if_any b [] = []
with_first_byte_if_any b (line ∷ lines) = (b ∷ line) ∷ lines

-- the whole lines of some bytes: those that a line feed ends
abbrev pub whole_lines_of : List ℕ → List (List ℕ)
whole_lines_of [] = []
whole_lines_of (b ∷ bytes) =
    if is_line_feed b then [] ∷ whole_lines_of bytes
    else with_first_byte_if_any b (whole_lines_of bytes)

-- what follows the first so many lines of some bytes
abbrev pub after_lines : ℕ → List ℕ → List ℕ
after_lines zero bytes = bytes
after_lines (suc n) bytes = after_lines n (rest_of bytes)

-- the words are just `quit`
abbrev pub are_quit : List (List ℕ) → Bool
are_quit [] = false
are_quit (word ∷ []) = bytes_eq word (codes "quit")
are_quit (word ∷ next ∷ words) = false

-- a line is just `quit`, with any blanks round it
abbrev pub is_quit : List ℕ → Bool
is_quit line = are_quit (words_of line)

-- a line has more bytes than it may have; a carriage return at its end counts among them
abbrev pub is_too_long : List ℕ → Bool
is_too_long line = nat_lt MOST_LINE_BYTES (length line)

-- how the first line of a request of HTTP ends: with a blank, a space or a tab, and a version
abbrev pub request_ends : List (List ℕ)
request_ends =
    codes " HTTP/1.1" ∷ codes " HTTP/1.0" ∷ codes "\tHTTP/1.1" ∷ codes "\tHTTP/1.0" ∷ []

-- a line ends as the first line of a request of HTTP does
abbrev pub is_foreign : List ℕ → Bool
is_foreign line = list_any (ends_with nat_eq line) request_ends

-- a line is the last one that is read: it is foreign, or just `quit`
abbrev pub is_last : List ℕ → Bool
is_last line = is_foreign line || is_quit line

-- a line ends a session: it is too long, or the last one that is read
abbrev pub ends_session : List ℕ → Bool
ends_session line = is_too_long line || is_last (without_return line)

-- the lines before the first that ends a session
abbrev pub before_end : List (List ℕ) → List (List ℕ)
before_end [] = []
before_end (line ∷ lines) = if ends_session line then [] else line ∷ before_end lines

-- how the first line that ends a session does so; where none does, the session ended with them
abbrev pub end_by_lines : List (List ℕ) → SessionEnd
end_by_lines [] = session_end.Ended
end_by_lines (line ∷ lines) =
    if is_too_long line then session_end.LineTooLong
    else if is_foreign (without_return line) then session_end.Foreign
    else if is_quit (without_return line) then session_end.Ended
    else end_by_lines lines

-- how a session of at most so many lines ends over these, where nothing fails
abbrev pub end_within : ℕ → List (List ℕ) → SessionEnd
end_within most lines =
    if nat_le most (length (before_end lines)) then session_end.TooManyLines else end_by_lines lines

-- the lines that are answered: those before the end, as many as a session may have
unfoldable pub answered_of : List (List ℕ) → List (List ℕ)
answered_of lines = take MOST_LINES (before_end lines)

-- how a session over these lines ends, where nothing fails
unfoldable pub end_of : List (List ℕ) → SessionEnd
end_of lines = end_within MOST_LINES lines

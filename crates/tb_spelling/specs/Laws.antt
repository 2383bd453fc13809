-- What is spelled is read, what is read is spelled so, and each list of edits has one spelling.
use Rattle.std.specs.Prelude.{◌≡◌, ◌<◌, ℕ, List, get_or, Some}
use Rattle.tb_release.specs.declared.edits.Edit.{Edit}
use Rattle.tb_spelling.specs.Payloads.{IsPayload}
use Rattle.tb_spelling.specs.Reading.{edits_in}

-- each is a byte
abbrev pub AreBytes : List ℕ → Type 0
AreBytes bytes = (i : ℕ) → get_or bytes i 0 < 256

-- a payload is read as its edits
abbrev pub SpelledIsRead : Type 0
SpelledIsRead =
    (bytes : List ℕ) (edits : List Edit) → IsPayload bytes edits → edits_in bytes ≡ Some edits

-- what bytes are read as has them as its payload, each of them
abbrev pub ReadIsSpelled : Type 0
ReadIsSpelled =
    (bytes : List ℕ) (edits : List Edit) → AreBytes bytes → edits_in bytes ≡ Some edits
    → IsPayload bytes edits

-- bytes are the payload of one list of edits alone
abbrev pub OneSpelling : Type 0
OneSpelling =
    (bytes : List ℕ) (some others : List Edit) → IsPayload bytes some → IsPayload bytes others
    → some ≡ others

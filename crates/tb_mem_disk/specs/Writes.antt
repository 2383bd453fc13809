-- What writes make of a file's bytes, and the contents that it had.
use Rattle.std.specs.Prelude.{◌≡◌, ◌≤◌, ◌+◌, ℕ, List, [], ◌∷◌, ◌++◌, length, take, drop}

-- the bytes of a file at first, and the writes since: a place, and what was written there
pub record HeldFile : Type 0 where
  pub first : List ℕ
  pub writes : List (ℕ × List ℕ)

-- the bytes with others over them
abbrev pub overwritten : ℕ × List ℕ → List ℕ → List ℕ
overwritten write bytes =
    take write.0 bytes ++ write.1 ++ drop (write.0 + length write.1) bytes

-- the bytes after writes
abbrev pub after_writes : List ℕ → List (ℕ × List ℕ) → List ℕ
after_writes bytes [] = bytes
after_writes bytes (write ∷ writes) = after_writes (overwritten write bytes) writes

abbrev pub bytes_of : HeldFile → List ℕ
bytes_of file = after_writes file.first file.writes

-- the file had these bytes when it had so many writes, or later
pub record HadSince (file : HeldFile) (time : ℕ) (bytes : List ℕ) : Type 0 where
  pub writes : ℕ
  pub since : time ≤ writes
  pub made : writes ≤ length file.writes
  pub had : bytes ≡ after_writes file.first (take writes file.writes)

-- What a source gives, and the bytes that it has left, where it tells them.
use Rattle.std.specs.Prelude.{◌≡◌, ℕ, ◌<◌, ◌≤◌, List, [], ◌++◌, length, take, Option, None, Some}
use Rattle.tb_io.specs.declared.read.Read.{Read}
use Rattle.tb_io.specs.declared.read.Read.TheVariants.{Got, End, Failed}

-- the source gave exactly these bytes
abbrev pub Gave : Option (List ℕ) → Option (List ℕ) → List ℕ → Type 0
Gave None after bytes = after ≡ None
Gave (Some before) None bytes = ⊥
Gave (Some before) (Some after) bytes = before ≡ bytes ++ after

-- nothing is left, of bytes or whatever else is told as a list
abbrev pub IsAtEnd : {A : Type 0} → Option (List A) → Type 0
IsAtEnd None = Unit {0}
IsAtEnd (Some left) = left ≡ []

-- what a read says: from one to all places of the buffer hold the bytes that the source gave, or
-- nothing was left, or nothing was given
abbrev pub Reads : Read → Option (List ℕ) → Option (List ℕ) → List ℕ → Type 0
Reads (Got n) before after buffer =
    (0 < n) × (n ≤ length buffer) × Gave before after (take n buffer)
Reads End before after buffer = IsAtEnd before × (after ≡ before)
Reads Failed before after buffer = after ≡ before

-- how many bytes a read gave
abbrev pub given_by : Read → ℕ
given_by (Got n) = n
given_by End = 0
given_by Failed = 0

-- the bytes still to come: those that were read ahead, and then those that the source has left
abbrev pub stream_of : List ℕ → Option (List ℕ) → Option (List ℕ)
stream_of ahead None = None
stream_of ahead (Some left) = Some (ahead ++ left)

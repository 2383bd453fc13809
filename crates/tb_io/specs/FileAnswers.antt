-- What a reading of a name may return.
use Rattle.std.specs.Prelude.{◌≡◌, ℕ, ◌<◌, ◌≤◌, List, length, Option, None, Some, IsSomeAnd}
use Rattle.tb_io.specs.declared.answers.FileRead.{FileRead}
use Rattle.tb_io.specs.declared.answers.FileRead.TheVariants.{Bytes, TooLong, Failed, Memory}

-- a reading with bytes has at most so many
abbrev pub IsWithin : ℕ → FileRead → Type 0
IsWithin max (Bytes v) = length v.items ≤ max
IsWithin max TooLong = Unit {0}
IsWithin max Failed = Unit {0}
IsWithin max Memory = Unit {0}

-- what a reading says of what the name holds: exactly those bytes, or more than so many
abbrev pub Tells : Option (List ℕ) → ℕ → FileRead → Type 0
Tells held max (Bytes v) = held ≡ Some v.items
Tells held max TooLong = IsSomeAnd held (λ bytes. max < length bytes)
Tells held max Failed = Unit {0}
Tells held max Memory = Unit {0}

-- what a reading says where the files tell what each name holds
abbrev pub TellsOf : Option (List ℕ → Option (List ℕ)) → List ℕ → ℕ → FileRead → Type 0
TellsOf None name max read = Unit {0}
TellsOf (Some at) name max read = Tells (at name) max read

-- a copy of these bytes, or out of memory for it, where they are at most so many, and TooLong where
-- they are more
abbrev pub IsCopy : List ℕ → ℕ → FileRead → Type 0
IsCopy bytes max (Bytes v) = (length bytes ≤ max) × (v.items ≡ bytes)
IsCopy bytes max TooLong = max < length bytes
IsCopy bytes max Failed = ⊥
IsCopy bytes max Memory = length bytes ≤ max

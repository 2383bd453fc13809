-- Reading from left to right, field by field: a value and the bytes behind it, or nothing.
use Rattle.std.specs.Prelude.{◌==◌, ℕ, ℤ, zero, suc, Bool, List, [], ◌∷◌, length, take, drop}
use Rattle.std.specs.Prelude.{◌≡◌, Option, Some, None, Result, Ok, Err, nat_lt, if◌then◌else◌}
use Rattle.std.specs.Int.{Width, w16, byte_len, cast_signed, from_be_bytes}
use Rattle.tb_spelling.specs.declared.fault.PayloadFault.{PayloadFault}
use Rattle.tb_spelling.specs.declared.fault.PayloadFault.TheVariants.{Bad, Memory}

abbrev pub Reader : Type 0 → Type 0
Reader A = List ℕ → Option (A × List ℕ)

-- goes on with what was read, where something was
abbrev pub then_read : {A B : Type 0} → Option (A × List ℕ) → (A → List ℕ → Option B) → Option B
then_read None next = None
then_read (Some x) next = next x.0 x.1

-- a number in so many bytes, the greatest first
abbrev pub number_at : Width → Reader ℕ
number_at w bytes =
    if nat_lt (length bytes) (byte_len w) then None
    else Some (from_be_bytes w (take (byte_len w) bytes), drop (byte_len w) bytes)

-- what is made of a field
abbrev pub made_at : {A B : Type 0} → (A → B) → Reader A → Reader B
made_at make one bytes = then_read (one bytes) (λ x rest. Some (make x, rest))

-- a number with a sign, from its two's complement
abbrev pub signed_at : Reader ℤ
signed_at = made_at (cast_signed w16) (number_at w16)

-- a field that passes a test
abbrev pub tested_at : {A : Type 0} → (A → Bool) → Reader A → Reader A
tested_at test one bytes =
    then_read (one bytes) (λ x rest. if test x then Some (x, rest) else None)

-- one field and another
abbrev pub pair_at : {A B : Type 0} → Reader A → Reader B → Reader (A × B)
pair_at first second bytes =
    then_read (first bytes) (λ x rest. then_read (second rest) (λ y end. Some ((x, y), end)))

-- so many fields
abbrev pub many_at : {A : Type 0} → Reader A → ℕ → Reader (List A)
many_at one zero bytes = Some ([], bytes)
many_at one (suc n) bytes =
    then_read (one bytes) (λ x rest. then_read (many_at one n rest) (λ xs end. Some (x ∷ xs, end)))

-- how many there are, and then each
abbrev pub counted_at : {A : Type 0} → Reader ℕ → Reader A → Reader (List A)
counted_at count one bytes = then_read (count bytes) (λ n rest. many_at one n rest)

-- one field that is all of the bytes
abbrev pub whole : {A : Type 0} → Reader A → List ℕ → Option A
whole one bytes = then_read (one bytes) (λ x rest. if length rest == 0 then Some x else None)

-- a call failed: there is nothing to read, unless it is out of memory
abbrev pub Fails : {B : Type 0} → PayloadFault → Option B → Type 0
Fails Bad read = read ≡ None
Fails Memory read = Unit {0}

-- a call returned what is read, as its value is seen, or failed so
abbrev pub Gives : {A B : Type 0} → (A → B) → Result A PayloadFault → Option B → Type 0
Gives view (Ok x) read = read ≡ Some (view x)
Gives view (Err fault) read = Fails fault read

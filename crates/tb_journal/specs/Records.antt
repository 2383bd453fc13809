-- What a journal's file stands for: the payloads of its records.
use Rattle.std.specs.Prelude.{◌≡◌, ◌≢◌, ◌<◌, ◌^◌, ◌+◌, ◌-◌, ◌==◌, ◌&&◌, ℕ, zero, suc, Bool, List, [], ◌∷◌, ◌++◌}
use Rattle.std.specs.Prelude.{length, take, drop, get_or, nat_lt, if◌then◌else◌}
use Rattle.std.specs.List.{AllByRecursion}
use Rattle.std.specs.Int.{w32, to_be_bytes, from_be_bytes}

-- a record begins with its gate; the length of its payload is in the four bytes behind
abbrev pub length_at : List ℕ → ℕ
length_at bytes = from_be_bytes w32 (take 4 (drop 1 bytes))

-- whether an open gate, the length, the payload and the gate that follows stand in front
abbrev pub is_whole : List ℕ → Bool
is_whole bytes = (get_or bytes 0 0 == 1) && nat_lt (5 + length_at bytes) (length bytes)

abbrev pub payload_at : List ℕ → List ℕ
payload_at bytes = take (length_at bytes) (drop 5 bytes)

abbrev pub after_record : List ℕ → List ℕ
after_record bytes = drop (5 + length_at bytes) bytes

-- the payloads of the records in front, of at most so many
abbrev pub payloads : ℕ → List ℕ → List (List ℕ)
payloads zero bytes = []
payloads (suc n) bytes =
    if is_whole bytes then payload_at bytes ∷ payloads n (after_record bytes) else []

-- what stands behind them
abbrev pub behind_records : ℕ → List ℕ → List ℕ
behind_records zero bytes = bytes
behind_records (suc n) bytes =
    if is_whole bytes then behind_records n (after_record bytes) else bytes

-- the payloads for which a file stands: eight bytes, then records
abbrev pub stands_for : List ℕ → List (List ℕ)
stands_for file = payloads (length file) (drop 8 file)

-- what stands behind them, beginning with a gate where the file is long enough
abbrev pub end_of : List ℕ → List ℕ
end_of file = behind_records (length file) (drop 8 file)

-- a gate is there, and it isn't open
abbrev pub IsShut : List ℕ → Type 0
IsShut [] = ⊥
IsShut (gate ∷ rest) = gate ≢ 1

-- a payload's record with an open gate
abbrev pub record_of : List ℕ → List ℕ
record_of payload = 1 ∷ to_be_bytes w32 (length payload) ++ payload

abbrev pub records_of : List (List ℕ) → List ℕ
records_of [] = []
records_of (payload ∷ more) = record_of payload ++ records_of more

-- a payload whose length has four bytes
abbrev pub HasLength : List ℕ → Type 0
HasLength payload = length payload < 2 ^ 32

-- what is written behind a gate before it opens: length, payload, and a gate that is shut
abbrev pub behind_of : List ℕ → List ℕ
behind_of payload = to_be_bytes w32 (length payload) ++ payload ++ 0 ∷ []

-- the payload in what is written so
abbrev pub payload_behind : List ℕ → List ℕ
payload_behind bytes = take (length bytes - 5) (drop 4 bytes)

-- a gate lies at this place of the file, behind eight bytes and the records of some payloads
pub record HasGate (file : List ℕ) (place : ℕ) : Type 0 where
  pub head : List ℕ
  pub so_far : List (List ℕ)
  pub rest : List ℕ
  pub long : length head ≡ 8
  pub split : file ≡ head ++ (records_of so_far ++ rest)
  pub here : place ≡ 8 + length (records_of so_far)
  pub lies : 0 < length rest
  pub each : AllByRecursion HasLength so_far

-- and isn't open
pub record ShutAt (file : List ℕ) (place : ℕ) : Type 0 where
  pub gate : HasGate file place
  pub shut : get_or file place 1 ≢ 1

-- the payloads before a place: those for which the file would stand were it cut there, with a gate
-- that is shut
abbrev pub payloads_before : ℕ → List ℕ → List (List ℕ)
payloads_before place file = stands_for (take place file ++ 0 ∷ [])

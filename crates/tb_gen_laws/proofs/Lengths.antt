-- How long lines of short fields are.
use Rattle.std.proofs.Common.{ℕ, zero, suc, ◌+◌, ◌*◌, ◌<◌, ◌≤◌, List, [], ◌∷◌, length, arith, length-append, suc-mul}
use Rattle.std.specs.List.{flat_map, join_with_byte, range_with_len}
use Rattle.tb_gen.specs.Lines.{each_below, fields_line}

-- each field has 11 bytes at most
abbrev pub AreShort : List (List ℕ) → Type 0
AreShort [] = Unit {0}
AreShort (field ∷ fields) = (length field ≤ 11) × AreShort fields

length-joined : (fields : List (List ℕ)) → AreShort fields → length (join_with_byte 44 fields) ≤ 12 * length fields
length-joined [] p = omega arith
length-joined (x ∷ []) p = omega (arith, p.0)
length-joined (x ∷ y ∷ fields) p = omega (arith, p.0, length-joined (y ∷ fields) p.1, length-append x (44 ∷ join_with_byte 44 (y ∷ fields)))

pub length-line : (fields : List (List ℕ)) → AreShort fields → length (fields_line fields) ≤ 12 * length fields + 1
length-line fields p = omega (arith, length-joined fields p, length-append (join_with_byte 44 fields) (10 ∷ []))

length-from : (a n most : ℕ) (lines : ℕ → List ℕ) → ((i : ℕ) → i < a + n → length (lines i) ≤ most) → length (flat_map lines (range_with_len a n)) ≤ n * most
length-from a zero most lines each = omega arith
length-from a (suc n) most lines each =
    omega (arith, suc-mul n most, each a (omega arith), length-from (a + 1) n most lines (λ i below. each i (omega (arith, below))), length-append (lines a) (flat_map lines (range_with_len (a + 1) n)))

-- lines of so many numbers, where each number has few bytes
pub length-below : (n most : ℕ) (lines : ℕ → List ℕ) → ((i : ℕ) → i < n → length (lines i) ≤ most) → length (each_below n lines) ≤ n * most
unfolding each_below
length-below n most lines each = length-from 0 n most lines (λ i below. each i (omega (arith, below)))

-- Writes that are cut short, whole, or none.
use Rattle.std.proofs.Common.{◌≡◌, ◌≤◌, ◌+◌, ℕ, List, ◌++◌, max, length, take, drop, refl, sym, ◌∙◌, ap, subst, arith, length-append, length-drop, append_assoc}
use Rattle.std.proofs.lemmas.List.{take_at, drop_at, length-take-le}
use Rattle.tb_disk.specs.Images.{Follows, IsWritten, Only, Torn}

-- a write that wrote nothing is one that was cut short
pub Torn-nothing : (at n : ℕ) (file : List ℕ) → Torn at n file file
Torn-nothing at n file = record { before = refl; behind = refl; no_shorter = omega arith; no_longer = omega arith }

pub Torn-start : (at n : ℕ) (file image : List ℕ) → image ≡ file → Torn at n file image
Torn-start at n file image same = subst (Torn at n file) (sym same) (Torn-nothing at n file)

-- and so is a whole one
pub Torn-written : (at : ℕ) (bytes old new : List ℕ) → at ≤ length old → IsWritten at bytes old new → Torn at (length bytes) old new
Torn-written at bytes old new within written =
    let front : length (take at old) ≡ at = length-take-le at old within in
    let fronts : length (take at old ++ bytes) ≡ at + length bytes = omega (arith, length-append (take at old) bytes, front) in
    let rest = drop (at + length bytes) old in
    let whole : length new ≡ at + length bytes + length rest = omega (arith, ap length written.holds, length-append (take at old ++ bytes) rest, fronts) in
    record {
      before = ap (take at) (written.holds ∙ append_assoc (take at old) bytes rest) ∙ take_at (take at old) (bytes ++ rest) at front;
      behind = ap (drop (at + length bytes)) written.holds ∙ drop_at (take at old ++ bytes) rest (at + length bytes) fronts;
      no_shorter = omega (arith, whole, length-drop (at + length bytes) old);
      no_longer = omega (arith, whole, length-drop (at + length bytes) old);
    }

-- after a write on a file that was on the disk, a stop leaves that file with the write cut short
pub Torn-follows : (at n : ℕ) (file : List ℕ) (old new : List ℕ → Type 0) → Only file old → Follows (Torn at n) old new → (image : List ℕ) → new image → Torn at n file image
Torn-follows at n file old new only follows image left =
    let from = follows image left in
    subst (λ f. Torn at n f image) (only from.0 from.1) from.2

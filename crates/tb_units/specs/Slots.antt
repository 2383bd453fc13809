-- The array in which links are looked up by their persons.
use Rattle.std.specs.Prelude.{◌≡◌, ◌==◌, ℕ, zero, suc, cond, List, get_or}
use Rattle.tb_model.specs.Units.{PairValue}
use Rattle.tb_units.specs.Pairs.{pair_at}

-- the slot of a person by the first n links: one more than the place of the person's last link
-- among them, and 0 where there is none
unfoldable pub slot_of : List PairValue → ℕ → ℕ → ℕ
slot_of links person zero = 0
slot_of links person (suc n) =
    cond ((pair_at links n).0 == person) (suc n) (slot_of links person n)

-- each person's slot is that by the first n links; past the last slot it is 0
abbrev pub AreSlots : List PairValue → ℕ → List ℕ → Type 0
AreSlots links n slots = (person : ℕ) → get_or slots person 0 ≡ slot_of links person n

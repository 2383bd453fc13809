-- What dwellings add at the places of a table, by the number to which each link leads.
use Rattle.std.specs.Prelude.{◌≡◌, ◌&&◌, ◌<◌, ◌+◌, ◌%◌, ℕ, Bool, nat_lt, cond}
use Rattle.std.specs.Prelude.{List, length, slice_index}
use Rattle.std.specs.List.{sum_by}
use Rattle.tb_base.specs.declared.cells.Cell.{Cell}
use Rattle.tb_base.specs.Parts.{modulus, part_at, weight, Part}
use Rattle.tb_model.specs.Units.{PairValue, UnitsValue}
use Rattle.tb_marks.specs.Raised.{meets}
use Rattle.tb_units.specs.Chains.{any_to}

-- whether a number leads to a place; one past all places leads to none
abbrev pub leads : List ℕ → ℕ → ℕ → ℕ → Bool
leads sizes places x i = nat_lt x places && meets sizes x i

-- whether the number of a link leads to a place
abbrev pub link_leads : List ℕ → ℕ → List ℕ → ℕ → ℕ → Bool
link_leads sizes places numbers i k = leads sizes places (slice_index numbers k) i

-- whether one of the links to a dwelling leads to a place
abbrev pub home_leads : List ℕ → ℕ → List PairValue → List ℕ → ℕ → ℕ → Bool
home_leads sizes places links numbers number i =
    any_to links number (link_leads sizes places numbers i) (length links)

-- what dwellings add to a part of the cell of a place: those of which a link leads there
abbrev pub added : List ℕ → ℕ → List PairValue → List ℕ → Part → List PairValue → ℕ → ℕ
added sizes places links numbers p dwellings i =
    sum_by (λ d. cond (home_leads sizes places links numbers d.0 i) (weight p d.1) 0) dwellings

-- the new cells are the old ones with these dwellings, each put in once at each place to which one
-- of its links leads
abbrev pub AreCounted : List ℕ → UnitsValue → List ℕ → List PairValue → List Cell → List Cell
    → Type 0
AreCounted sizes units numbers dwellings old new =
    (p : Part) (i : ℕ) → i < length old
    → part_at p new i % modulus p
    ≡ (part_at p old i + added sizes (length old) units.links numbers p dwellings i) % modulus p

-- What records add to the cells of a plan's places without Total.
use Rattle.std.specs.Prelude.{◌≡◌, ◌+◌, ◌-◌, ◌%◌, ◌^◌, ◌==◌, ◌<◌, ℕ, cond}
use Rattle.std.specs.Prelude.{min, List, length, map}
use Rattle.std.specs.List.{sum_by}
use Rattle.tb_base.specs.declared.cells.Cell.{Cell}
use Rattle.tb_base.specs.declared.records.Record.{Record}
use Rattle.tb_base.specs.Records.{category_at}
use Rattle.tb_base.specs.Parts.{modulus, part_at, weight, Part}
use Rattle.tb_plan.specs.Plans.{PlanValue}
use Rattle.tb_plan.specs.Steps.{number_at}

-- what records add at the number of a place: those that lead there
abbrev pub added : PlanValue → Part → List Record → ℕ → ℕ
added plan p records i =
    sum_by (λ r. cond (number_at plan (category_at r) == i) (weight p r.key) 0) records

-- the new cells are the old ones with these records, each put in at its place without Total
abbrev pub ArePut : PlanValue → List Cell → List Record → List Cell → Type 0
ArePut plan old records new =
    (p : Part) (i : ℕ) → i < length old
    → part_at p new i % modulus p ≡ (part_at p old i + added plan p records i) % modulus p

-- the cells hold these records and no others, each at its place without Total
abbrev pub Hold : PlanValue → List Cell → List Record → Type 0
Hold plan cells records =
    (p : Part) (i : ℕ) → i < length cells
    → part_at p cells i % modulus p ≡ added plan p records i % modulus p

-- the numbers to which records lead, as far as a u32 goes
abbrev pub numbers_of : PlanValue → List Record → List ℕ
numbers_of plan records = map (λ r. min (number_at plan (category_at r)) (2 ^ 32 - 1)) records

-- The number to which each link leads: that of its person's record.
use Rattle.std.specs.Prelude.{◌≡◌, ◌-◌, ◌^◌, ◌==◌, ◌<◌, ℕ, cond, min}
use Rattle.std.specs.Prelude.{List, [], ◌∷◌, length, slice_index}
use Rattle.tb_base.specs.declared.records.Record.{Record}
use Rattle.tb_base.specs.Records.{category_at}
use Rattle.tb_model.specs.Units.{PairValue}
use Rattle.tb_plan.specs.Plans.{PlanValue}
use Rattle.tb_plan.specs.Steps.{number_at}
use Rattle.tb_units.specs.Pairs.{pair_at}

-- the number to which a record leads, as far as a u32 goes
abbrev pub number_in : PlanValue → Record → ℕ
number_in plan r = min (number_at plan (category_at r)) (2 ^ 32 - 1)

-- the number of the last of some records that is a person's, or one that is given where none is
abbrev pub noted : (Record → ℕ) → ℕ → List Record → ℕ → ℕ
noted number person [] other = other
noted number person (r ∷ rs) other =
    noted number person rs (cond (r.person == person) (number r) other)

-- the number of each link is that of its person among some records, or the old one
abbrev pub AreNoted : (Record → ℕ) → List PairValue → List Record → List ℕ → List ℕ → Type 0
AreNoted number links records old new =
    (k : ℕ) → k < length links
    → slice_index new k ≡ noted number (pair_at links k).0 records (slice_index old k)

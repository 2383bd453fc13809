-- The numbers of a chunk of records, worked out a step at a time.
use Rattle.std.proofs.Common.{◌≡◌, ℕ, ◌+◌, ◌-◌, ◌%◌, ◌^◌, ◌<◌, ◌≤◌, cond, min, List, [], length, take, get_or, set, ap, sym, ◌∙◌, inl, inr, arith}
use Rattle.std.specs.Prelude.{◌==◌, nat_lt}
use Rattle.std.proofs.lemmas.Bool.{lt-ltb, le-ltb, cases_lt, ne_eqb, eq-eqb}
use Rattle.std.proofs.lemmas.Bool.Decides.{eqb_tells}
use Rattle.std.proofs.lemmas.List.{length-map, get_or-map, get_or-set_same, get_or-set_other, ext_get_or, length-take-le, get_or-take, get_or_default}
use Rattle.tb_base.specs.declared.cells.Cell.{Cell}
use Rattle.tb_base.specs.declared.records.Record.{Record}
use Rattle.tb_base.specs.Records.{category_at}
use Rattle.tb_base.specs.Parts.{modulus, part_at, weight, Part}
use Rattle.tb_base.proofs.TallyLemmas.{at_place, ArePutBy}
use Rattle.tb_model.proofs.SumLemmas.{sum_by-ext}
use Rattle.tb_grid.proofs.Changing.{all-changed, none-changed, one-changed, ChangedBelow}
use Rattle.tb_plan.specs.Plans.{PlanValue}
use Rattle.tb_plan.specs.Steps.{number_at}
use Rattle.tb_scan.specs.Scanning.{added, numbers_of, ArePut}

-- no record
no_record : Record
no_record = record { person = 0; key = 0; codes = [] }

-- a number to which the step of a chunk's record is added, as far as a u32 goes
abbrev pub stepped : (Record → ℕ) → List Record → Record → ℕ → ℕ → ℕ
stepped step chunk one i n = min (n + step (get_or chunk i one)) (2 ^ 32 - 1)

-- of the numbers of a chunk, the first k have a step added
abbrev pub SteppedBelow : ℕ → (Record → ℕ) → List Record → List ℕ → List ℕ → Type 0
SteppedBelow k step chunk old new = (one : Record) → ChangedBelow k (stepped step chunk one) (length chunk) old new

pub none-stepped : (step : Record → ℕ) (chunk : List Record) (old : List ℕ) → SteppedBelow 0 step chunk old old
none-stepped step chunk old one = none-changed (stepped step chunk one) (length chunk) old

pub stepped-more : (k : ℕ) (step : Record → ℕ) (chunk : List Record) (old numbers : List ℕ) (value : ℕ) → length chunk ≤ length numbers → k < length chunk
    → ((one : Record) → value ≡ min (get_or numbers k 0 + step (get_or chunk k one)) (2 ^ 32 - 1))
    → SteppedBelow k step chunk old numbers → SteppedBelow (k + 1) step chunk old (set numbers k value)
stepped-more k step chunk old numbers value long there made before one =
    one-changed k (stepped step chunk one) (length chunk) old numbers value long there (made one) (before one)

pub all-stepped : (k : ℕ) (step : Record → ℕ) (chunk : List Record) (old new : List ℕ) → length chunk ≤ k → SteppedBelow k step chunk old new
    → (one : Record) (i : ℕ) → i < length chunk → get_or new i 0 ≡ min (get_or old i 0 + step (get_or chunk i one)) (2 ^ 32 - 1)
all-stepped k step chunk old new done before one = all-changed k (stepped step chunk one) (length chunk) old new done (before one)

-- a step more, as far as a u32 goes
pub cap-add : (s x : ℕ) → min (min s (2 ^ 32 - 1) + x) (2 ^ 32 - 1) ≡ min (s + x) (2 ^ 32 - 1)
cap-add s x = omega arith

-- the number to which a record leads, as far as a u32 goes
abbrev pub short_number : PlanValue → Record → ℕ
short_number plan r = min (number_at plan (category_at r)) (2 ^ 32 - 1)

-- the numbers that are worked out one by one
pub are-numbers : (plan : PlanValue) (chunk : List Record) (numbers : List ℕ) → length chunk ≤ length numbers
    → ((one : Record) (i : ℕ) → i < length chunk → get_or numbers i 0 ≡ short_number plan (get_or chunk i one))
    → take (length chunk) numbers ≡ numbers_of plan chunk
are-numbers plan chunk numbers long each =
    let as_long : length (take (length chunk) numbers) ≡ length chunk = length-take-le (length chunk) numbers long in
    ext_get_or 0 (take (length chunk) numbers) (numbers_of plan chunk) (as_long ∙ sym (length-map chunk (short_number plan))) (λ i below.
    let within : i < length chunk = omega (arith, below, as_long) in
    get_or-take (length chunk) numbers i 0 within ∙ each no_record i within ∙ sym (get_or-map (short_number plan) chunk i no_record 0 within))

-- a number that was cut off is none of few cells
cut-apart : (n i : ℕ) → i < 2 ^ 32 - 1 → (min n (2 ^ 32 - 1) == i) ≡ (n == i)
cut-apart n i small = elim (eqb_tells n i) [
  | inl h ↦ let e : min n (2 ^ 32 - 1) ≡ i = omega (arith, h.1, small) in eq-eqb (min n (2 ^ 32 - 1)) i e ∙ sym h.0
  | inr h ↦ let e : min n (2 ^ 32 - 1) ≡ i → ⊥ = λ same. omega (arith, h.1, small, same) in ne_eqb (min n (2 ^ 32 - 1)) i e ∙ sym h.0
]

-- so records that are put in by them are put in
pub short-put : (plan : PlanValue) (old new : List Cell) (rs : List Record) → length old ≤ 8 → ArePutBy (short_number plan) old rs new → ArePut plan old rs new
short-put plan old new rs few put p i below =
    let small : i < 2 ^ 32 - 1 = omega (arith, below, few) in
    put p i below ∙ ap (λ n. (part_at p old i + n) % modulus p) (sum_by-ext _ _ rs (λ r. ap (λ b. cond b (weight p r.key) 0) (cut-apart (number_at plan (category_at r)) i small)))

-- the step of the record at a place
pub step-at : (step : Record → ℕ) (chunk : List Record) (k : ℕ) (r one : Record) → k < length chunk → r ≡ get_or chunk k r → step r ≡ step (get_or chunk k one)
step-at step chunk k r one below is = ap step (is ∙ get_or_default chunk k r one below)

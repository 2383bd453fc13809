-- The kept cells to come in a roll-up of a packed cube.
use Rattle.std.proofs.Common.{◌≡◌, ℕ, ◌+◌, ◌*◌, ◌/◌, ◌%◌, ◌-◌, ◌<◌, ◌≤◌, Bool, true, false, cond, List, [], ◌∷◌, length, drop, take, get_or, set, refl, ap, sym, subst, ◌∙◌, inl, inr, arith}
use Rattle.std.specs.Prelude.{◌==◌, slice_index}
use Rattle.std.specs.List.{sum_by}
use Rattle.std.proofs.Math.Nat.{mod-add-mod}
use Rattle.std.proofs.lemmas.Bool.{cases_lt, le-ltb, lt-ltb, ne_eqb}
use Rattle.std.proofs.lemmas.List.{drop_more, take_all}
use Rattle.std.proofs.lemmas.List.FromFn.{length-map-range_with_len, get_or-map-range_with_len}
use Rattle.std.proofs.lemmas.List.Sums.{sum_by-cons}
use Rattle.std.proofs.lemmas.Nat.{div-mul-add, mul-add-lt}
use Rattle.tb_base.specs.declared.cells.Cell.{Cell}
use Rattle.tb_base.specs.Cells.{empty_cell}
use Rattle.tb_base.specs.Parts.{Part, part, part_at, modulus}
use Rattle.tb_base.proofs.PartLemmas.{added-at, empty-part}
use Rattle.tb_grid.specs.Products.{cells_over}
use Rattle.tb_grid.proofs.Factors.{at-least}
use Rattle.tb_grid.specs.declared.products.TheConstants.{MOST_CELLS}
use Rattle.tb_query.specs.declared.limits.TheConstants.{MOST_PLACES}
use Rattle.tb_cube.specs.declared.packing.KeptCell.{KeptCell}
use Rattle.tb_cube.specs.Cubes.{CubeValue, IsWhole}
use Rattle.tb_cube.specs.Packing.{is_empty, kept_from}
use Rattle.tb_cube.specs.Walks.{count_of as count_by, kept_spread, led_to, Fork}
use Rattle.tb_cube.proofs.Kept.{to-row}
use Rattle.tb_cube.proofs.Walks.{sum-added}
use Rattle.tb_plan.specs.Plans.{PlanValue}
use Rattle.tb_plan.specs.Steps.{step_at}
use Rattle.tb_rollup.specs.Rolling.{forks_of, kept_after, kept_before, AreAdded, AreBetween, AreUnused, IsLast, StandsBefore}
use Rattle.tb_rollup.proofs.Added.{last-runs}
use Rattle.tb_rollup.proofs.Descent.{stands-next, stands-start, Descent}
use Rattle.tb_rollup.proofs.Spread.{count_of, count-of-forks, no-step}

-- in order from an earlier place on
pub between-lower : (a b to : ℕ) (ks : List KeptCell) → a ≤ b → AreBetween b to ks → AreBetween a to ks
between-lower a b to [] less h = tt
between-lower a b to (k ∷ ks) less h = (omega (arith, less, h.0), h.1, h.2)

-- those from a place on
pub between-after : (a to end : ℕ) (ks : List KeptCell) → AreBetween a to ks → AreBetween end to (kept_after end ks)
between-after a to end [] h = tt
between-after a to end (k ∷ ks) h =
    elim (cases_lt k.place end) [
      | inl low ↦ rw (lt-ltb k.place end low) (between-after (k.place + 1) to end ks h.2)
      | inr past ↦ rw (le-ltb k.place end past) (past, h.1, h.2)
    ]

-- none from the last place on
pub between-none : (a to : ℕ) (ks : List KeptCell) → to ≤ a → AreBetween a to ks → ks ≡ []
between-none a to [] less h = refl
between-none a to (k ∷ ks) less h = absurd (omega (arith, less, h.0, h.1))

-- what is kept of cells
pub between-kept : (a to : ℕ) (cs : List Cell) → to ≡ a + length cs → AreBetween a to (kept_from a cs)
between-kept a to [] long = tt
between-kept a to (c ∷ cs) long =
    elim (is_empty c) as (λ b. AreBetween a to (cond b (kept_from (a + 1) cs) (record { place = a; cell = c } ∷ kept_from (a + 1) cs))) [
      | true ↦ between-lower a (a + 1) to (kept_from (a + 1) cs) (omega arith) (between-kept (a + 1) to cs (omega (arith, long)))
      | false ↦ (omega arith, omega (arith, long), between-kept (a + 1) to cs (omega (arith, long)))
    ]

nothing-there : (b : Bool) → cond {A = ℕ} b 0 0 ≡ 0
nothing-there true = refl
nothing-there false = refl

one-there : (b : Bool) (x s t : ℕ) → cond b x 0 + (cond b s 0 + t) ≡ cond b (x + s) 0 + t
one-there true x s t = omega arith
one-there false x s t = omega arith

-- the cells before a place that lead to one number are one sum there
gone-sum : (forks : List Fork) (p : Part) (i to a end long : ℕ) (ks : List KeptCell) → AreBetween a long ks → ((q : ℕ) → a ≤ q → q < end → led_to forks q ≡ to)
    → kept_spread forks p ks i ≡ cond (to == i) (sum_by (λ k. part p k.cell) (kept_before end ks)) 0 + kept_spread forks p (kept_after end ks) i
gone-sum forks p i to a end long [] h leads = sym (let e : cond (to == i) 0 0 + 0 ≡ 0 = omega (arith, nothing-there (to == i)) in e)
gone-sum forks p i to a end long (k ∷ ks) h leads =
    let F : KeptCell → ℕ = λ q. cond (led_to forks q.place == i) (part p q.cell) 0 in
    elim (cases_lt k.place end) [
      | inl low ↦
          let here : led_to forks k.place ≡ to = leads k.place h.0 low in
          let more : kept_spread forks p ks i ≡ cond (to == i) (sum_by (λ q. part p q.cell) (kept_before end ks)) 0 + kept_spread forks p (kept_after end ks) i =
          gone-sum forks p i to (k.place + 1) end long ks h.2 (λ q from below. leads q (omega (arith, h.0, from)) below) in
          rw (lt-ltb k.place end low)
          (sum_by-cons F k ks ∙ ap (λ n. cond (n == i) (part p k.cell) 0 + kept_spread forks p ks i) here
          ∙ ap (λ s. cond (to == i) (part p k.cell) 0 + s) more
          ∙ one-there (to == i) (part p k.cell) (sum_by (λ q. part p q.cell) (kept_before end ks)) (kept_spread forks p (kept_after end ks) i)
          ∙ ap (λ s. cond (to == i) s 0 + kept_spread forks p (kept_after end ks) i) (sym (sum_by-cons (λ (q : KeptCell). part p q.cell) k (kept_before end ks))))
      | inr past ↦
          rw (le-ltb k.place end past)
          (let e : kept_spread forks p (k ∷ ks) i ≡ cond (to == i) 0 0 + kept_spread forks p (k ∷ ks) i = omega (arith, nothing-there (to == i)) in e)
    ]

-- those that lead past a number add nothing there
past-sum : (forks : List Fork) (p : Part) (i a end long : ℕ) (ks : List KeptCell) → AreBetween a long ks → ((q : ℕ) → a ≤ q → q < end → i < led_to forks q)
    → kept_spread forks p ks i ≡ kept_spread forks p (kept_after end ks) i
past-sum forks p i a end long [] h leads = refl
past-sum forks p i a end long (k ∷ ks) h leads =
    let F : KeptCell → ℕ = λ q. cond (led_to forks q.place == i) (part p q.cell) 0 in
    elim (cases_lt k.place end) [
      | inl low ↦
          let past : i < led_to forks k.place = leads k.place h.0 low in
          rw (lt-ltb k.place end low)
          (sum_by-cons F k ks ∙ ap (λ b. cond b (part p k.cell) 0 + kept_spread forks p ks i) (ne_eqb (led_to forks k.place) i (λ e. omega (arith, past, e)))
          ∙ (let e : 0 + kept_spread forks p ks i ≡ kept_spread forks p ks i = omega arith in e)
          ∙ past-sum forks p i (k.place + 1) end long ks h.2 (λ q from below. leads q (omega (arith, h.0, from)) below))
      | inr past ↦ rw (le-ltb k.place end past) refl
    ]

-- two terms of a sum
grown : (m new old s t all : ℕ) → new % m ≡ (old + s) % m → all ≡ s + t → (new + t) % m ≡ (old + all) % m
grown m new old s t all h is =
    let turn : old + s + t ≡ old + all = omega (arith, is) in
    sym (mod-add-mod new m t) ∙ ap (λ y. (y + t) % m) h ∙ mod-add-mod (old + s) m t ∙ ap (λ y. y % m) turn

module _ (plan : PlanValue) (vars : List ℕ) where
  -- some kept cells and then others
  pub added-then : (first second third : List KeptCell) (old mid new : List Cell) → length mid ≡ length old → AreAdded plan vars first old second mid → AreAdded plan vars second mid third new
      → AreAdded plan vars first old third new
  added-then first second third old mid new long h h' = λ p i below. h' p i (omega (arith, below, long)) ∙ h p i below

  -- one
  pub one-added : (one : KeptCell) (ks : List KeptCell) (cells : List Cell) (to : ℕ) (new : Cell) → led_to (forks_of plan vars) one.place ≡ to → to < length cells
      → ((p : Part) → part p new ≡ (part p (get_or cells to empty_cell) + part p one.cell) % modulus p)
      → AreAdded plan vars (one ∷ ks) cells ks (set cells to new)
  one-added one ks cells to new leads inside made = λ p i below.
      let F : KeptCell → ℕ = λ q. cond (led_to (forks_of plan vars) q.place == i) (part p q.cell) 0 in
      grown (modulus p) (part_at p (set cells to new) i) (part_at p cells i) (cond (to == i) (part p one.cell) 0) (kept_spread (forks_of plan vars) p ks i) (kept_spread (forks_of plan vars) p (one ∷ ks) i)
      (added-at p cells to i new (part p one.cell) inside (sum-added p (get_or cells to empty_cell) new one.cell (part p one.cell) (made p) refl))
      (sum_by-cons F one ks ∙ ap (λ n. cond (n == i) (part p one.cell) 0 + kept_spread (forks_of plan vars) p ks i) leads)

  pub one-past : (one : KeptCell) (ks : List KeptCell) (cells : List Cell) (to : ℕ) → led_to (forks_of plan vars) one.place ≡ to → length cells ≤ to
      → AreAdded plan vars (one ∷ ks) cells ks cells
  one-past one ks cells to leads past = λ p i below.
      let F : KeptCell → ℕ = λ q. cond (led_to (forks_of plan vars) q.place == i) (part p q.cell) 0 in
      ap (λ t. (part_at p cells i + t) % modulus p)
      (sym (sum_by-cons F one ks ∙ ap (λ b. cond b (part p one.cell) 0 + kept_spread (forks_of plan vars) p ks i) (ne_eqb (led_to (forks_of plan vars) one.place) i (λ e. omega (arith, leads, past, below, e)))
      ∙ (let e : 0 + kept_spread (forks_of plan vars) p ks i ≡ kept_spread (forks_of plan vars) p ks i = omega arith in e)))

  -- those before a place, which lead to one number
  pub run-added : (ks : List KeptCell) (cells : List Cell) (a end long to : ℕ) (sum new : Cell) → AreBetween a long ks → ((q : ℕ) → a ≤ q → q < end → led_to (forks_of plan vars) q ≡ to)
      → to < length cells → ((p : Part) → part p sum % modulus p ≡ sum_by (λ k. part p k.cell) (kept_before end ks) % modulus p)
      → ((p : Part) → part p new ≡ (part p (get_or cells to empty_cell) + part p sum) % modulus p)
      → AreAdded plan vars ks cells (kept_after end ks) (set cells to new)
  run-added ks cells a end long to sum new h leads inside all made = λ p i below.
      let s : ℕ = sum_by (λ k. part p k.cell) (kept_before end ks) in
      grown (modulus p) (part_at p (set cells to new) i) (part_at p cells i) (cond (to == i) s 0) (kept_spread (forks_of plan vars) p (kept_after end ks) i) (kept_spread (forks_of plan vars) p ks i)
      (added-at p cells to i new s inside (sum-added p (get_or cells to empty_cell) new sum s (made p) (all p)))
      (gone-sum (forks_of plan vars) p i to a end long ks h leads)

  -- those before a place, which lead past all cells
  pub run-past : (ks : List KeptCell) (cells : List Cell) (a end long : ℕ) → AreBetween a long ks → ((q : ℕ) → a ≤ q → q < end → length cells ≤ led_to (forks_of plan vars) q)
      → AreAdded plan vars ks cells (kept_after end ks) cells
  run-past ks cells a end long h leads = λ p i below.
      ap (λ t. (part_at p cells i + t) % modulus p) (sym (past-sum (forks_of plan vars) p i a end long ks h (λ q from low. omega (arith, below, leads q from low))))

-- a walk goes on to the kept cells from a place on
pub record GoesOn (plan : PlanValue) (vars : List ℕ) (long next : ℕ) (kept : List KeptCell) (old : List Cell) (left : List KeptCell) (new : List Cell) : Type 0 where
  pub between : AreBetween next long left
  pub added : AreAdded plan vars kept old left new

-- variables that aren't used lead nowhere
led-unused : (plan : PlanValue) (vs : List ℕ) (place : ℕ) → AreUnused plan vs → led_to (forks_of plan vs) place ≡ 0
led-unused plan [] place unused = refl
led-unused plan (v ∷ vs) place unused =
    let c : ℕ = place / count_by (forks_of plan vs) in
    omega (arith, no-step plan v c unused.0, led-unused plan vs (place % count_by (forks_of plan vs)) unused.1)

-- where none is used all cells lead to the first
pub all-first : (plan : PlanValue) (vs : List ℕ) (p : Part) (i : ℕ) (ks : List KeptCell) → AreUnused plan vs
    → sum_by (λ k. cond (0 == i) (part p k.cell) 0) ks ≡ kept_spread (forks_of plan vs) p ks i
all-first plan vs p i [] unused = refl
all-first plan vs p i (k ∷ ks) unused =
    let F : KeptCell → ℕ = λ q. cond (led_to (forks_of plan vs) q.place == i) (part p q.cell) 0 in
    sum_by-cons (λ (q : KeptCell). cond (0 == i) (part p q.cell) 0) k ks
    ∙ ap (λ s. cond (0 == i) (part p k.cell) 0 + s) (all-first plan vs p i ks unused)
    ∙ ap (λ n. cond (n == i) (part p k.cell) 0 + kept_spread (forks_of plan vs) p ks i) (sym (led-unused plan vs k.place unused))
    ∙ sym (sum_by-cons F k ks)

-- a cell's place in the row of its category
abbrev pub no_kept : KeptCell
no_kept = record { place = 0; cell = record { count = 0; key = 0 } }

rest-is : (xs : List KeptCell) (n : ℕ) → n ≡ length xs → take n xs ≡ xs
rest-is xs n e = take_all n xs (omega (arith, e))

-- the first of some kept cells, and the others
pub first-kept : (left : List KeptCell) (d : KeptCell) → 1 ≤ length left → left ≡ get_or left 0 d ∷ take (length left - 1) (drop 1 left)
first-kept [] d some = absurd (omega (arith, some))
first-kept (k ∷ ks) d some = ap (λ xs. k ∷ xs) (sym (rest-is ks (length (k ∷ ks) - 1) (omega arith)))

-- what was added to an empty sum
pub from-none : (p : Part) (empty sum : Cell) (s : ℕ) → empty ≡ empty_cell → part p sum % modulus p ≡ (part p empty + s) % modulus p → part p sum % modulus p ≡ s % modulus p
from-none p empty sum s none made =
    let gone : part p empty + s ≡ s = omega (arith, ap (part p) none, empty-part p) in
    made ∙ ap (λ x. x % modulus p) gone

-- at the last variable that is used
module _ (cube : CubeValue) (plan : PlanValue) (cells at k base : ℕ) (steps : List ℕ) (run : ℕ) (kept : List KeptCell) (is : IsLast plan cube.vars at steps run) (here : StandsBefore cube plan cells at k base kept) where
  abbrev row : ℕ
  row = length steps * run

  pub row-is : count_of plan (drop at cube.vars) ≡ row
  row-is = (last-runs plan cube.vars at steps run is).count

  pub row-inside : (k + 1) * row ≤ length cube.cells
  row-inside = subst (λ m. (k + 1) * m ≤ length cube.cells) row-is here.stands.whole

  pub row-few : row ≤ MOST_CELLS
  row-few =
      let next : (k + 1) * row ≡ k * row + row = omega arith in
      omega (arith, row-inside, here.stands.small, next)

  pub row-starts : AreBetween (k * row) (length cube.cells) kept
  row-starts = subst (λ m. AreBetween (k * m) (length cube.cells) kept) row-is here.to_come

  -- a place of the row leads on by its run
  pub run-leads : (c d : ℕ) → c < length steps → d < run → led_to (forks_of plan cube.vars) (k * row + (c * run + d)) ≡ base + slice_index steps c
  run-leads c d low short =
      let v : ℕ = get_or cube.vars at 0 in
      let rest : List ℕ = drop (at + 1) cube.vars in
      let n : ℕ = slice_index plan.shape v in
      let r : ℕ = c * run + d in
      let size : length steps ≡ n = ap length is.steps_are ∙ length-map-range_with_len (step_at plan v) 0 n in
      let within : r < row = omega (arith, mul-add-lt c run d (length steps) low short) in
      let tail : led_to (forks_of plan (drop at cube.vars)) r ≡ step_at plan v c =
      ap (λ vs. led_to (forks_of plan vs) r) (drop_more cube.vars at 0 is.there)
      ∙ ap (λ m. step_at plan v (r / m) + led_to (forks_of plan rest) (r % count_by (forks_of plan rest))) (count-of-forks plan rest ∙ sym is.run_is)
      ∙ (let none : step_at plan v (r / run) + led_to (forks_of plan rest) (r % count_by (forks_of plan rest)) ≡ step_at plan v (r / run) =
      omega (arith, led-unused plan rest (r % count_by (forks_of plan rest)) is.rest) in none)
      ∙ ap (step_at plan v) (div-mul-add c run d short) in
      let step : slice_index steps c ≡ step_at plan v c =
      ap (λ (s : List ℕ). get_or s c 0) is.steps_are ∙ get_or-map-range_with_len (step_at plan v) 0 n c c 0 (omega (arith, low, size)) (omega arith) in
      ap (λ m. led_to (forks_of plan cube.vars) (k * m + r)) (sym row-is)
      ∙ here.leads r (omega (arith, within, row-is))
      ∙ ap (λ x. base + x) (tail ∙ sym step)

  pub place-leads : (c q : ℕ) → c < length steps → k * row + c * run ≤ q → q < k * row + (c + 1) * run → led_to (forks_of plan cube.vars) q ≡ base + slice_index steps c
  place-leads c q low from below =
      let d : ℕ = q - (k * row + c * run) in
      let next : (c + 1) * run ≡ c * run + run = omega arith in
      let is-there : q ≡ k * row + (c * run + d) = omega (arith, from) in
      ap (led_to (forks_of plan cube.vars)) is-there ∙ run-leads c d low (omega (arith, from, below, next))

  -- one cell for each category
  pub cell-leads : (q : ℕ) → run ≡ 1 → k * length steps ≤ q → q < k * length steps + length steps → led_to (forks_of plan cube.vars) q ≡ base + slice_index steps (q - k * length steps)
  cell-leads q one from below =
      let c : ℕ = q - k * length steps in
      let same : row ≡ length steps = ap (λ r. length steps * r) one ∙ (let e : length steps * 1 ≡ length steps = omega arith in e) in
      let start : k * row ≡ k * length steps = ap (λ m. k * m) same in
      let here-is : c * run ≡ c = ap (λ r. c * r) one ∙ (let e : c * 1 ≡ c = omega arith in e) in
      let next : (c + 1) * run ≡ c + 1 = ap (λ r. (c + 1) * r) one ∙ (let e : (c + 1) * 1 ≡ c + 1 = omega arith in e) in
      place-leads c q (omega (arith, from, below)) (omega (arith, from, start, here-is)) (omega (arith, from, below, start, next))

-- at a variable before it
module _ (cube : CubeValue) (plan : PlanValue) (cells j k base v n : ℕ) (kept : List KeptCell) (d : Descent cube plan cells j k base v n) (here : StandsBefore cube plan cells j k base kept) where
  abbrev after : ℕ
  after = count_of plan (drop (j + 1) cube.vars)

  all-is : count_of plan (drop j cube.vars) ≡ n * after
  all-is = ap (count_of plan) d.level.is ∙ ap (λ x. x * after) (sym d.level.size)

  -- how many cells each category has
  pub run-is : (c run : ℕ) → c < n → run ≡ cells_over cube.shape (drop (j + 1) cube.vars) → run ≡ after
  run-is c run low is =
      let inside = d.level.inside c low in
      let less : after ≤ (k * n + c + 1) * after = at-least (k * n + c + 1) after (omega arith) in
      let whole : cells_over plan.shape (drop (j + 1) cube.vars) ≡ after = omega (arith, less, inside, d.stands.small) in
      is ∙ ap (λ s. cells_over s (drop (j + 1) cube.vars)) d.stands.shape ∙ whole

  pub room-end : (c : ℕ) → c < n → (k * n + c + 1) * after ≤ MOST_CELLS
  room-end c low = omega (arith, d.level.inside c low, d.stands.small)

  -- a category's places lead on from its number
  category-leads : (c r : ℕ) → c < n → r < after → led_to (forks_of plan cube.vars) ((k * n + c) * after + r) ≡ base + step_at plan v c + led_to (forks_of plan (drop (j + 1) cube.vars)) r
  category-leads c r low short =
      let ts : List Fork = forks_of plan (drop (j + 1) cube.vars) in
      let t : Fork = record { count = slice_index plan.shape v; step = step_at plan v } in
      let size : count_by ts ≡ after = count-of-forks plan (drop (j + 1) cube.vars) in
      let flat : (k * n + c) * after + r ≡ k * (n * after) + (c * after + r) = omega arith in
      let within : c * after + r < n * after = omega (arith, mul-add-lt c after r n low short) in
      let tail : led_to (forks_of plan (drop j cube.vars)) (c * after + r) ≡ step_at plan v c + led_to ts r =
      ap (λ vs. led_to (forks_of plan vs) (c * after + r)) d.level.is ∙ ap (λ m. led_to (t ∷ ts) (c * m + r)) (sym size) ∙ to-row t ts c r (omega (arith, short, size)) in
      ap (led_to (forks_of plan cube.vars)) (flat ∙ ap (λ m. k * m + (c * after + r)) (sym all-is))
      ∙ here.leads (c * after + r) (omega (arith, within, all-is))
      ∙ ap (λ x. base + x) tail
      ∙ (let turn : base + (step_at plan v c + led_to ts r) ≡ base + step_at plan v c + led_to ts r = omega arith in turn)

  -- so the walk goes on from there
  pub before-next : (c to now : ℕ) (left : List KeptCell) → c < n → now ≡ cells → to < now → to ≡ base + step_at plan v c → AreBetween ((k * n + c) * after) (length cube.cells) left
      → StandsBefore cube plan now (j + 1) (k * n + c) to left
  before-next c to now left low same below leads between = record {
    stands = stands-next cube plan cells j k base v n d c to now low same below;
    leads = λ r short. category-leads c r low short ∙ ap (λ x. x + led_to (forks_of plan (drop (j + 1) cube.vars)) r) (sym leads);
    to_come = between;
  }

  -- or passes over them
  pub category-past : (c to q : ℕ) → c < n → to ≡ base + step_at plan v c → (k * n + c) * after ≤ q → q < (k * n + c + 1) * after → to ≤ led_to (forks_of plan cube.vars) q
  category-past c to q low leads from below =
      let r : ℕ = q - (k * n + c) * after in
      let next : (k * n + c + 1) * after ≡ (k * n + c) * after + after = omega arith in
      let is-there : q ≡ (k * n + c) * after + r = omega (arith, from) in
      let led = category-leads c r low (omega (arith, from, below, next)) in
      omega (arith, led, leads, ap (led_to (forks_of plan cube.vars)) is-there)

-- the whole cube
pub at-start : (cube : CubeValue) (plan : PlanValue) (cells : ℕ) (kept : List KeptCell) → IsWhole cube → cube.shape ≡ plan.shape → 0 < length cube.cells → 0 < cells → cells ≤ MOST_PLACES
    → length cube.cells ≡ count_of plan cube.vars → kept ≡ kept_from 0 cube.cells → StandsBefore cube plan cells 0 0 0 kept
at-start cube plan cells kept whole shape full some few long are = record {
  stands = stands-start cube plan cells whole shape full some few long;
  leads = λ r low.
      let none : 0 * count_of plan cube.vars + r ≡ r = omega arith in
      ap (led_to (forks_of plan cube.vars)) none ∙ (let zero-more : led_to (forks_of plan cube.vars) r ≡ 0 + led_to (forks_of plan cube.vars) r = omega arith in zero-more);
  to_come =
      let none : 0 ≡ 0 * count_of plan cube.vars = omega arith in
      subst (λ a. AreBetween a (length cube.cells) kept) none
      (subst (AreBetween 0 (length cube.cells)) (sym are) (between-kept 0 (length cube.cells) cube.cells (omega arith)));
}

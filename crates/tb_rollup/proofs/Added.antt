-- Runs of cells that are added up, and the last variable of a roll-up.
use Rattle.std.proofs.Common.{◌≡◌, ℕ, ◌+◌, ◌*◌, ◌%◌, ◌<◌, false, cond, Option, Some, None, List, [], ◌∷◌, length, drop, get_or, refl, ap, sym, ◌∙◌, arith}
use Rattle.std.specs.Prelude.{◌==◌, slice_index, MatchOption}
use Rattle.std.specs.Option.{IfSome}
use Rattle.std.specs.List.{sum_by, range_with_len}
use Rattle.std.proofs.Math.Nat.{mod-mod, mod-add-mod}
use Rattle.std.proofs.lemmas.List.{drop_more}
use Rattle.std.proofs.lemmas.List.Sums.{sum_by-cons}
use Rattle.std.proofs.lemmas.List.FromFn.{length-map-range_with_len, get_or-map-range_with_len}
use Rattle.tb_base.proofs.PartLemmas.{add-more}
use Rattle.tb_base.specs.Parts.{Part, modulus}
use Rattle.tb_grid.proofs.Sums.{sum-range}
use Rattle.tb_plan.specs.Plans.{PlanValue, uses}
use Rattle.tb_plan.specs.Steps.{step_at, steps_of}
use Rattle.tb_rollup.specs.Rolling.{spread, run_sum, runs_at, AreUnused, IsLast}
use Rattle.tb_cube.proofs.Walks.{sum-next}
use Rattle.tb_rollup.proofs.Spread.{count_of, spread-more, spread-unused, no-step}

-- one cell more of a run
pub one-cell : (k s mid new x : ℕ) → mid % k ≡ s % k → new ≡ (mid + x) % k → new % k ≡ (s + x) % k
one-cell k s mid new x h e =
    ap (λ y. y % k) e ∙ mod-mod (mid + x) k ∙ sym (mod-add-mod mid k x) ∙ ap (λ y. (y + x) % k) h ∙ mod-add-mod s k x

-- one run more
pub one-run : (p : Part) (f : ℕ → ℕ) (old mid new : ℕ) (c : ℕ) → mid % modulus p ≡ (old + sum_by f (range_with_len 0 c)) % modulus p → new % modulus p ≡ (mid + f c) % modulus p
    → new % modulus p ≡ (old + sum_by f (range_with_len 0 (c + 1))) % modulus p
one-run p f old mid new c h e = add-more (modulus p) old mid new (sum_by f (range_with_len 0 c)) (f c) h e ∙ ap (λ s. (old + s) % modulus p) (sym (sum-next f c))

-- the last variable that is used leads to runs
pub record LastRuns (plan : PlanValue) (vars : List ℕ) (at : ℕ) (steps : List ℕ) (run : ℕ) : Type 0 where
  pub count : count_of plan (drop at vars) ≡ length steps * run
  pub adds : (f : ℕ → ℕ) (k base i : ℕ) → spread plan (drop at vars) f k base i ≡ runs_at f (k * (length steps * run)) steps run base i

pub last-runs : (plan : PlanValue) (vars : List ℕ) (at : ℕ) (steps : List ℕ) (run : ℕ) → IsLast plan vars at steps run → LastRuns plan vars at steps run
last-runs plan vars at steps run is =
    let v : ℕ = get_or vars at 0 in
    let rest : List ℕ = drop (at + 1) vars in
    let n : ℕ = slice_index plan.shape v in
    let split : drop at vars ≡ v ∷ rest = drop_more vars at 0 is.there in
    let long : length steps ≡ n = ap length is.steps_are ∙ length-map-range_with_len (step_at plan v) 0 n in
    let step : (c : ℕ) → c < n → slice_index steps c ≡ step_at plan v c = λ c low. ap (λ (s : List ℕ). get_or s c 0) is.steps_are ∙ get_or-map-range_with_len (step_at plan v) 0 n c c 0 low (omega arith) in
    record {
      count = ap (count_of plan) split ∙ (rw (long, is.run_is) refl);
      adds = λ f k base i.
          let m : ℕ = count_of plan rest in
          let term : (c : ℕ) → c < 0 + n → spread plan rest f (k * n + c) (base + step_at plan v c) i ≡ cond (base + slice_index steps c == i) (run_sum f (k * (length steps * run) + c * run) run) 0 = λ c low.
          let place : (r : ℕ) → (k * n + c) * m + r ≡ k * (n * m) + c * m + r = λ r. omega arith in
          spread-unused plan rest f (k * n + c) (base + step_at plan v c) i is.rest
          ∙ ap (λ s. cond (base + s == i) (sum_by (λ r. f ((k * n + c) * m + r)) (range_with_len 0 m)) 0) (sym (step c (omega (arith, low))))
          ∙ ap (λ x. cond (base + slice_index steps c == i) x 0) (sum-range (λ r. f ((k * n + c) * m + r)) (λ r. f (k * (n * m) + c * m + r)) 0 m (λ r _. ap f (place r)))
          ∙ ap (λ x. cond (base + slice_index steps c == i) (run_sum f (k * (x * m) + c * m) m) 0) (sym long)
          ∙ ap (λ x. cond (base + slice_index steps c == i) (run_sum f (k * (length steps * x) + c * x) x) 0) (sym is.run_is) in
          ap (λ vs. spread plan vs f k base i) split ∙ spread-more plan v rest f k base i
          ∙ sum-range _ (λ c. cond (base + slice_index steps c == i) (run_sum f (k * (length steps * run) + c * run) run) 0) 0 n term
          ∙ ap (λ x. sum_by (λ c. cond (base + slice_index steps c == i) (run_sum f (k * (length steps * run) + c * run) run) 0) (range_with_len 0 x)) (sym long);
    }

-- a run of one cell
pub run-one : (f : ℕ → ℕ) (from c : ℕ) → f (from + c) ≡ run_sum f (from + c * 1) 1
run-one f from c =
    let e : from + c ≡ from + c * 1 + 0 = omega arith in
    let z : f (from + c * 1 + 0) + 0 ≡ f (from + c * 1 + 0) = omega arith in
    ap f e ∙ sym (sum_by-cons (λ r. f (from + c * 1 + r)) 0 [] ∙ z)

-- the number after a category, by the steps of its variable if the plan uses it
pub next-known : {S : Type 0} (now : S → List ℕ) (plan : PlanValue) (v c : ℕ) (o : Option S) → c < slice_index plan.shape v
    → MatchOption o (uses plan v ≡ false) (λ s. now s ≡ steps_of plan v) → IfSome o (λ s. c < length (now s))
next-known now plan v c None low is = tt
next-known now plan v c (Some s) low is = omega (arith, low, ap length is, length-map-range_with_len (step_at plan v) 0 (slice_index plan.shape v))

pub next-is : {S : Type 0} (now : S → List ℕ) (plan : PlanValue) (v c base to : ℕ) (o : Option S) → c < slice_index plan.shape v
    → MatchOption o (uses plan v ≡ false) (λ s. now s ≡ steps_of plan v) → MatchOption o (to ≡ base) (λ s. to ≡ base + slice_index (now s) c) → to ≡ base + step_at plan v c
next-is now plan v c base to None low unused made = let none = no-step plan v c unused in omega (arith, made, none)
next-is now plan v c base to (Some s) low is made =
    made ∙ ap (λ x. base + x) (ap (λ (xs : List ℕ). get_or xs c 0) is ∙ get_or-map-range_with_len (step_at plan v) 0 (slice_index plan.shape v) c c 0 low (omega arith))

-- a cube of which no variable is used is one run
pub whole-run : (plan : PlanValue) (vars : List ℕ) (f : ℕ → ℕ) (run i : ℕ) → AreUnused plan vars → run ≡ count_of plan vars → spread plan vars f 0 0 i ≡ runs_at f 0 (0 ∷ []) run 0 i
whole-run plan vars f run i unused is =
    let g : ℕ → ℕ = λ c. cond (0 + slice_index (0 ∷ []) c == i) (run_sum f (0 + c * run) run) 0 in
    let z : 0 * run ≡ 0 + 0 * run = omega arith in
    let e : g 0 ≡ g 0 + 0 = omega arith in
    spread-unused plan vars f 0 0 i unused
    ∙ ap (λ m. cond (0 == i) (sum_by (λ r. f (0 * m + r)) (range_with_len 0 m)) 0) (sym is)
    ∙ ap (λ a. cond (0 == i) (sum_by (λ r. f (a + r)) (range_with_len 0 run)) 0) z
    ∙ e ∙ sym (sum_by-cons g 0 [])

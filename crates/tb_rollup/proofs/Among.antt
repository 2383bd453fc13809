-- The variables of a cube, and its lists of categories.
use Rattle.std.proofs.Common.{◌≡◌, ℕ, zero, suc, ◌+◌, ◌<◌, ◌≤◌, ◌&&◌, Bool, true, false, cond, List, [], ◌∷◌, refl, ap, sym, ◌∙◌, inl, inr, arith}
use Rattle.std.specs.Prelude.{◌==◌}
use Rattle.std.specs.List.{sum_by, range_with_len, filter, list_any, list_all}
use Rattle.std.proofs.lemmas.Bool.{cases_eq, eq-eqb, ne_eqb, and_parts}
use Rattle.std.proofs.lemmas.Bool.Decides.{eqb_tells}
use Rattle.std.proofs.lemmas.List.Sums.{sum_by-cons}
use Rattle.tb_model.specs.Cubes.{category_in}
use Rattle.tb_plan.specs.Plans.{PlanValue}
use Rattle.tb_plan.specs.Steps.{step_at}
use Rattle.tb_plan.proofs.Places.{OnceIn}
use Rattle.tb_cube.proofs.Lists.{Distinct, FitsList, NotIn}
use Rattle.tb_rollup.proofs.Zipped.{lead}

zero-in : (v : ℕ) (f : ℕ → ℕ) (vs : List ℕ) → NotIn v vs → sum_by (λ u. cond (v == u) (f u) 0) vs ≡ 0
zero-in v f [] other = refl
zero-in v f (w ∷ ws) other = sum_by-cons (λ u. cond (v == u) (f u) 0) w ws ∙ rw (ne_eqb v w other.0) (let e : 0 + sum_by (λ u. cond (v == u) (f u) 0) ws ≡ sum_by (λ u. cond (v == u) (f u) 0) ws = omega arith in e ∙ zero-in v f ws other.1)

-- a variable among distinct ones is there once
pub once-in : (vs : List ℕ) (v : ℕ) → Distinct vs → list_any (λ w. w == v) vs ≡ true → OnceIn vs v
once-in [] v apart among f = cc
once-in (w ∷ ws) v apart among f =
    sum_by-cons (λ u. cond (v == u) (f u) 0) w ws
    ∙ elim (eqb_tells w v) [
      | inl h ↦
          let other : NotIn v ws = rw h.1 at apart.0 in
          rw (h.1, eq-eqb v v refl, zero-in v f ws other) (omega arith)
      | inr h ↦
          let rest : list_any (λ u. u == v) ws ≡ true = rw h.0 at among in
          rw (ne_eqb v w (λ e. h.1 (sym e))) (let e : 0 + sum_by (λ u. cond (v == u) (f u) 0) ws ≡ sum_by (λ u. cond (v == u) (f u) 0) ws = omega arith in e ∙ once-in ws v apart.1 rest f)
    ]

-- what passes a test among all that are used
pub all-range : (t u : ℕ → Bool) (a n v : ℕ) → list_all t (filter u (range_with_len a n)) ≡ true → a ≤ v → v < a + n → u v ≡ true → t v ≡ true
all-range t u a zero v all from below is = absurd (omega arith)
all-range t u a (suc n) v all from below is =
    let rest : List ℕ = filter u (range_with_len (a + 1) n) in
    elim (cases_eq v a) [
      | inl e ↦
          let used : u a ≡ true = rw e at is in
          let both : (t a && list_all t rest) ≡ true = rw used at all in
          rw e (and_parts (t a) (list_all t rest) both).0
      | inr other ↦
          let later : list_all t rest ≡ true = elim (u a) as (λ b. list_all t (cond b (a ∷ rest) rest) ≡ true → list_all t rest ≡ true) [ true ↦ λ h. (and_parts (t a) (list_all t rest) h).1 | false ↦ λ h. h ] all in
          all-range t u (a + 1) n v later (omega arith) (omega arith) is
    ]

sum-apart : (v : ℕ) (f g : ℕ → ℕ) (vs : List ℕ) → NotIn v vs → ((w : ℕ) → (v ≡ w → ⊥) → f w ≡ g w) → sum_by f vs ≡ sum_by g vs
sum-apart v f g [] other same = refl
sum-apart v f g (w ∷ ws) other same = rw (sum_by-cons f w ws, sum_by-cons g w ws, same w other.0, sum-apart v f g ws other.1 same) refl

-- the number to which a list leads is the sum of the steps of its categories
pub lead-steps : (plan : PlanValue) (shape vars cs : List ℕ) → FitsList shape vars cs → Distinct vars → lead plan vars cs ≡ sum_by (λ v. step_at plan v (category_in vars cs v)) vars
lead-steps plan shape [] cs fits apart = refl
lead-steps plan shape (v ∷ vs) [] fits apart = absurd fits
lead-steps plan shape (v ∷ vs) (c ∷ cs) fits apart =
    let f : ℕ → ℕ = λ w. step_at plan w (category_in (v ∷ vs) (c ∷ cs) w) in
    let head : f v ≡ step_at plan v c = ap (λ b. step_at plan v (cond b c (category_in vs cs v))) (eq-eqb v v refl) in
    let tail : sum_by f vs ≡ sum_by (λ w. step_at plan w (category_in vs cs w)) vs =
    sum-apart v f (λ w. step_at plan w (category_in vs cs w)) vs apart.0 (λ w other. ap (λ b. step_at plan w (cond b c (category_in vs cs w))) (ne_eqb v w other)) in
    ap (λ s. step_at plan v c + s) (lead-steps plan shape vs cs fits.1 apart.1 ∙ sym tail) ∙ ap (λ s. s + sum_by f vs) (sym head) ∙ sym (sum_by-cons f v vs)

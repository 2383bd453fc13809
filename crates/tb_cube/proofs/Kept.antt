-- What a walk adds, place by place, and from the kept cells alone.
use Rattle.std.proofs.Common.{◌≡◌, ℕ, zero, suc, ◌+◌, ◌*◌, ◌%◌, ◌<◌, ◌≤◌, Bool, true, false, cond, List, [], ◌∷◌, length, get_or, refl, ap, sym, subst, ◌∙◌, inl, inr, arith}
use Rattle.std.specs.Prelude.{◌==◌}
use Rattle.std.specs.List.{sum_by, range_with_len}
use Rattle.std.proofs.lemmas.Bool.{ne_eqb}
use Rattle.std.proofs.lemmas.Bool.Decides.{eqb_tells}
use Rattle.std.proofs.lemmas.List.Sums.{sum_by-cons}
use Rattle.std.proofs.lemmas.Nat.{div-mul-add, mod-mul-add}
use Rattle.std.proofs.lemmas.List.FromFn.{get_or-map-range_with_len}
use Rattle.tb_base.specs.declared.cells.Cell.{Cell}
use Rattle.tb_base.specs.Cells.{empty_cell}
use Rattle.tb_base.specs.Parts.{Part, part, part_at}
use Rattle.tb_base.proofs.PartLemmas.{empty-part}
use Rattle.tb_model.proofs.SumLemmas.{sum_by-ext, sum_by-none}
use Rattle.tb_grid.proofs.Sums.{sum-range}
use Rattle.tb_cube.specs.declared.packing.KeptCell.{KeptCell}
use Rattle.tb_cube.specs.Packing.{all_cells, cell_at, kept_from}
use Rattle.tb_cube.specs.Walks.{count_of, kept_spread, led_to, spread, Fork}
use Rattle.tb_cube.proofs.Packed.{Ascend, Below, ascend-kept, back, below-kept}
use Rattle.tb_cube.proofs.Walks.{spread-more, spread-end, sum-rows}

-- the number of a place goes by its first category and the place of the others
pub to-row : (t : Fork) (ts : List Fork) (c r : ℕ) → r < count_of ts → led_to (t ∷ ts) (c * count_of ts + r) ≡ t.step c + led_to ts r
to-row t ts c r low =
    ap (λ q. t.step q + led_to ts ((c * count_of ts + r) % count_of ts)) (div-mul-add c (count_of ts) r low)
    ∙ ap (λ q. t.step c + led_to ts q) (mod-mul-add c (count_of ts) r low)

-- what a walk adds, place by place
pub spread-places : (forks : List Fork) (f : ℕ → ℕ) (k base i : ℕ)
    → spread forks f k base i ≡ sum_by (λ r. cond (base + led_to forks r == i) (f (k * count_of forks + r)) 0) (range_with_len 0 (count_of forks))
spread-places [] f k base i =
    let none : base ≡ base + 0 = omega arith in
    let here : k ≡ k * 1 + 0 = omega arith in
    let g : ℕ → ℕ = λ r. cond (base + 0 == i) (f (k * 1 + r)) 0 in
    let e : g 0 ≡ g 0 + 0 = omega arith in
    spread-end f k base i ∙ ap (λ b. cond (b == i) (f k) 0) none ∙ ap (λ j. cond (base + 0 == i) (f j) 0) here ∙ e ∙ sym (sum_by-cons g 0 [])
spread-places (t ∷ ts) f k base i =
    let n : ℕ = t.count in
    let m : ℕ = count_of ts in
    let F : ℕ → ℕ = λ x. cond (base + led_to (t ∷ ts) x == i) (f (k * (n * m) + x)) 0 in
    let row : (c : ℕ) → spread ts f (k * n + c) (base + t.step c) i ≡ sum_by (λ r. F (c * m + r)) (range_with_len 0 m) = λ c.
    spread-places ts f (k * n + c) (base + t.step c) i
    ∙ sum-range (λ r. cond (base + t.step c + led_to ts r == i) (f ((k * n + c) * m + r)) 0) (λ r. F (c * m + r)) 0 m (λ r low.
    let e : base + t.step c + led_to ts r ≡ base + (t.step c + led_to ts r) = omega arith in
    let place : (k * n + c) * m + r ≡ k * (n * m) + (c * m + r) = omega arith in
    ap (λ b. cond (b == i) (f ((k * n + c) * m + r)) 0) (e ∙ ap (λ q. base + q) (sym (to-row t ts c r (omega (arith, low)))))
    ∙ ap (λ j. cond (base + led_to (t ∷ ts) (c * m + r) == i) (f j) 0) place) in
    spread-more t ts f k base i ∙ sum_by-ext _ _ (range_with_len 0 n) row ∙ sym (sum-rows F n m)

before-all : (a : ℕ) (ks : List KeptCell) (r : ℕ) → Ascend a ks → r < a → cell_at ks r ≡ empty_cell
before-all a [] r h low = refl
before-all a (k ∷ ks) r h low = rw (ne_eqb k.place r (λ e. omega (arith, h.0, low, e))) (before-all (k.place + 1) ks r h.1 (omega (arith, h.0)))

sum-more-than : (f g : ℕ → ℕ) (a n : ℕ) → ((r : ℕ) → a ≤ r → f r ≡ g r) → sum_by f (range_with_len a n) ≡ sum_by g (range_with_len a n)
sum-more-than f g a zero same = refl
sum-more-than f g a (suc n) same = rw (sum_by-cons f a (range_with_len (a + 1) n), sum_by-cons g a (range_with_len (a + 1) n), same a (omega arith), sum-more-than f g (a + 1) n (λ r low. same r (omega arith))) refl

-- a sum over all places is one over the kept cells
kept-sum : (G : ℕ → Cell → ℕ) → ((r : ℕ) → G r empty_cell ≡ 0) → (n a : ℕ) (ks : List KeptCell) → Ascend a ks → Below (a + n) ks
    → sum_by (λ r. G r (cell_at ks r)) (range_with_len a n) ≡ sum_by (λ k. G k.place k.cell) ks
kept-sum G none n a [] h below = sum_by-ext _ (λ (_ : ℕ). 0) (range_with_len a n) none ∙ sum_by-none (range_with_len a n)
kept-sum G none zero a (k ∷ ks) h below = absurd (omega (arith, h.0, below.0))
kept-sum G none (suc n) a (k ∷ ks) h below =
    let all : List KeptCell = k ∷ ks in
    let f : ℕ → ℕ = λ r. G r (cell_at all r) in
    let rest : a + suc n ≡ a + 1 + n = omega arith in
    sum_by-cons f a (range_with_len (a + 1) n)
    ∙ elim (eqb_tells k.place a) [
      | inl e ↦
          let head : f a ≡ G k.place k.cell = rw (e.0, e.1) refl in
          let up : Ascend (a + 1) ks = subst (λ (q : ℕ). Ascend (q + 1) ks) e.1 h.1 in
          let tail : sum_by f (range_with_len (a + 1) n) ≡ sum_by (λ (x : KeptCell). G x.place x.cell) ks =
          sum-more-than f (λ r. G r (cell_at ks r)) (a + 1) n (λ r low. rw (ne_eqb k.place r (λ q. omega (arith, e.1, low, q))) refl)
          ∙ kept-sum G none n (a + 1) ks up (subst (λ (q : ℕ). Below q ks) rest below.1) in
          rw (head, tail) (sym (sum_by-cons (λ (x : KeptCell). G x.place x.cell) k ks))
      | inr e ↦
          let up : Ascend (a + 1) all = (omega (arith, h.0, e.1), h.1) in
          let head : f a ≡ 0 = ap (G a) (before-all (a + 1) all a up (omega arith)) ∙ none a in
          let under : Below (a + 1 + n) all = subst (λ (q : ℕ). Below q all) rest below in
          rw (head, kept-sum G none n (a + 1) all up under) (omega arith)
    ]

no-matter : (b : Bool) → cond {A = ℕ} b 0 0 ≡ 0
no-matter true = refl
no-matter false = refl

-- so a walk over cells needs the kept ones alone
pub spread-kept : (forks : List Fork) (p : Part) (cells : List Cell) (ks : List KeptCell) (i : ℕ) → ks ≡ kept_from 0 cells → length cells ≡ count_of forks
    → spread forks (part_at p cells) 0 0 i ≡ kept_spread forks p ks i
spread-kept forks p cells ks i are size =
    let long : ℕ = length cells in
    let G : ℕ → Cell → ℕ = λ r c. cond (led_to forks r == i) (part p c) 0 in
    let none : (r : ℕ) → G r empty_cell ≡ 0 = λ r. ap (λ x. cond (led_to forks r == i) x 0) (empty-part p) ∙ no-matter (led_to forks r == i) in
    let up : Ascend 0 ks = subst (Ascend 0) (sym are) (ascend-kept 0 cells) in
    let under : Below (0 + long) ks = subst (Below (0 + long)) (sym are) (below-kept 0 cells (0 + long) (omega arith)) in
    let all : cells ≡ all_cells long ks = sym (ap (all_cells long) are ∙ back cells) in
    let place : (r : ℕ) → r < 0 + long → cond (0 + led_to forks r == i) (part_at p cells (0 * long + r)) 0 ≡ G r (cell_at ks r) = λ r low.
    let e : 0 + led_to forks r ≡ led_to forks r = omega arith in
    let z : 0 * long + r ≡ r = omega arith in
    ap (λ b. cond (b == i) (part_at p cells (0 * long + r)) 0) e
    ∙ ap (λ j. cond (led_to forks r == i) (part_at p cells j) 0) z
    ∙ ap (λ c. G r c) (ap (λ (cs : List Cell). get_or cs r empty_cell) all ∙ get_or-map-range_with_len (cell_at ks) 0 long r r empty_cell (omega (arith, low)) (omega arith)) in
    spread-places forks (part_at p cells) 0 0 i
    ∙ ap (λ n. sum_by (λ r. cond (0 + led_to forks r == i) (part_at p cells (0 * n + r)) 0) (range_with_len 0 n)) (sym size)
    ∙ sum-range _ (λ r. G r (cell_at ks r)) 0 long place
    ∙ kept-sum G none long 0 ks up under

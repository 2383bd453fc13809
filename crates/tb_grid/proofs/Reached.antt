-- What is added at the places of a table: each thing that is counted has a number, and lies in the place with that number and, with totals,
-- in those above it.
use Rattle.std.proofs.Common.{◌≡◌, ℕ, ◌+◌, ◌%◌, ◌<◌, ◌&&◌, Bool, true, false, cond, List, refl, ap, sym, ◌∙◌, inl, inr, arith}
use Rattle.std.specs.Prelude.{◌==◌, nat_lt}
use Rattle.std.specs.List.{sum_by}
use Rattle.std.proofs.Math.Nat.{mod-eq_of_lt, mod-add-mod}
use Rattle.std.proofs.lemmas.Bool.{cases_lt, lt-ltb, le-ltb, ne_eqb}
use Rattle.tb_model.specs.RowMajor.{product}
use Rattle.tb_model.proofs.SumLemmas.{sum_by-ext}
use Rattle.tb_grid.specs.Totals.{total_at}
use Rattle.tb_grid.proofs.Sums.{under, under-alone, total-add, total-sum, total-number, total-same-mod}

-- what the things with a number add
abbrev pub at_number : {X : Type 0} → (X → ℕ) → (X → ℕ) → List X → ℕ → ℕ
at_number number w xs i = sum_by (λ x. cond (number x == i) (w x) 0) xs

-- what the things that lie in a place add
abbrev pub reached : {X : Type 0} → Bool → List ℕ → (X → ℕ) → (X → ℕ) → List X → ℕ → ℕ
reached totals ns number w xs i = sum_by (λ x. cond (nat_lt (number x) (product ns) && under totals ns i (number x)) (w x) 0) xs

-- with no totals a number reaches the place with that number alone
alone : (ns : List ℕ) (w i x : ℕ) → i < product ns → cond (x == i) w 0 ≡ cond (nat_lt x (product ns) && under false ns i x) w 0
alone ns w i x below =
    elim (cases_lt x (product ns)) [
      | inl h ↦ rw (lt-ltb x (product ns) h, under-alone ns i x below h) refl
      | inr h ↦ rw (le-ltb x (product ns) h, ne_eqb x i (λ e. omega (arith, e))) refl
    ]

module _ {X : Type 0} (ns : List ℕ) (number w : X → ℕ) (xs : List X) (i : ℕ) (below : i < product ns) where
  reached-alone : at_number number w xs i ≡ reached false ns number w xs i
  reached-alone = sum_by-ext _ _ xs (λ x. alone ns (w x) i (number x) below)

  reached-totals : total_at ns (at_number number w xs) i ≡ reached true ns number w xs i
  reached-totals =
      let f : X → ℕ → ℕ = λ x j. cond (number x == j) (w x) 0 in
      total-sum ns f xs i below ∙ sum_by-ext (λ x. total_at ns (f x) i) _ xs (λ x. total-number ns (w x) i (number x) below)

  -- a part of a place's cell, to which the things were added: without totals
  pub plain-value : (totals : Bool) (k old new : ℕ) → totals ≡ false → new % k ≡ (old + at_number number w xs i) % k → new < k
      → new ≡ (old + reached totals ns number w xs i) % k
  plain-value totals k old new none made small =
      sym (mod-eq_of_lt small) ∙ made ∙ ap (λ x. (old + x) % k) (reached-alone ∙ ap (λ t. reached t ns number w xs i) (sym none))

  -- and with them: they were taken out, the things added at their numbers, and the totals added up again
  pub total-value : (totals : Bool) (k old new : ℕ) (taken put : ℕ → ℕ) → totals ≡ true → old % k ≡ total_at ns taken i % k
      → ((j : ℕ) → j < product ns → put j % k ≡ (taken j + at_number number w xs j) % k)
      → new % k ≡ total_at ns put i % k → new < k → new ≡ (old + reached totals ns number w xs i) % k
  total-value totals k old new taken put some were made totalled small =
      let more : ℕ = total_at ns (at_number number w xs) i in
      sym (mod-eq_of_lt small) ∙ totalled
      ∙ total-same-mod ns put (λ j. taken j + at_number number w xs j) k i below made
      ∙ ap (λ x. x % k) (total-add ns taken (at_number number w xs) i)
      ∙ sym (mod-add-mod (total_at ns taken i) k more) ∙ ap (λ x. (x + more) % k) (sym were) ∙ mod-add-mod old k more
      ∙ ap (λ x. (old + x) % k) (reached-totals ∙ ap (λ t. reached t ns number w xs i) (sym some))

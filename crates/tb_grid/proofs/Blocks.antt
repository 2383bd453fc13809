-- Blocks of the places of some dimensions, summed up dimension by dimension.
use Rattle.std.proofs.Common.{◌≡◌, ℕ, zero, suc, ◌+◌, ◌-◌, ◌*◌, ◌/◌, ◌%◌, ◌<◌, ◌≤◌, List, [], ◌∷◌, length, drop, get_or, refl, ap, sym, ◌∙◌, inl, inr, arith}
use Rattle.std.specs.List.{sum_by, range_with_len}
use Rattle.std.proofs.lemmas.Bool.{cases_lt}
use Rattle.std.proofs.Math.Path.{fun_ext}
use Rattle.std.proofs.lemmas.List.{drop_more, drop_all}
use Rattle.std.proofs.lemmas.Nat.{mul-add-lt}
use Rattle.tb_model.specs.RowMajor.{product}
use Rattle.tb_grid.specs.declared.totals.Sign.{Sign}
use Rattle.tb_grid.specs.declared.totals.Sign.TheVariants.{Plus, Minus}
use Rattle.tb_grid.specs.Totals.{total_at, AreSome}
use Rattle.tb_grid.specs.Signs.{plain, totalled}
use Rattle.tb_grid.proofs.Sums.{sum-range-mod, total-last, total-other, total-ext, cut}
use Rattle.tb_grid.proofs.Factors.{product-some, at-least, positive}

-- no dimension is left
at-nothing : (f : ℕ → ℕ) (k o r : ℕ) → r < product [] → f (o * product [] + r) % k ≡ total_at [] (λ j. f (o * product [] + j)) r % k
unfolding total_at
at-nothing f k o r below = refl

pub at-end : (sizes : List ℕ) (d : ℕ) (f : ℕ → ℕ) (k o r : ℕ) → length sizes ≤ d → r < product (drop d sizes)
    → f (o * product (drop d sizes) + r) % k ≡ total_at (drop d sizes) (λ j. f (o * product (drop d sizes) + j)) r % k
at-end sizes d f k o r past below =
    let none : drop d sizes ≡ [] = drop_all d sizes past in
    rw none (at-nothing f k o r (rw none at below))

some-drop : (ns : List ℕ) (d : ℕ) → AreSome ns → AreSome (drop d ns)
some-drop ns zero some = some
some-drop [] (suc d) some = tt
some-drop (n ∷ ns) (suc d) some = some-drop ns d some.1

-- the dimension d and those after it
pub record Here (sizes : List ℕ) (d : ℕ) : Type 0 where
  pub is : drop d sizes ≡ get_or sizes d 0 ∷ drop (d + 1) sizes
  pub some : 0 < get_or sizes d 0
  pub rest : AreSome (drop (d + 1) sizes)
  pub product_is : product (drop d sizes) ≡ get_or sizes d 0 * product (drop (d + 1) sizes)
  pub rest_some : 0 < product (drop (d + 1) sizes)

here : (sizes : List ℕ) (d : ℕ) → d < length sizes → AreSome (drop d sizes) → Here sizes d
here sizes d below some =
    let is = drop_more sizes d 0 below in
    let both = rw is at some in
    record { is = is; some = both.0; rest = both.1; product_is = ap product is; rest_some = product-some (drop (d + 1) sizes) both.1 }

-- where the sizes are all some and the blocks are all of the places, what the dimension d and those after it ask for
pub record Split (sizes : List ℕ) (d blocks long : ℕ) : Type 0 where
  pub here : Here sizes d
  pub room : blocks * get_or sizes d 0 ≤ long
  pub whole : blocks * get_or sizes d 0 * product (drop (d + 1) sizes) ≡ long
  pub some : 0 < blocks * get_or sizes d 0

pub split : (sizes : List ℕ) (d blocks long : ℕ) → d < length sizes → AreSome sizes → blocks * product (drop d sizes) ≡ long → 0 < blocks
    → Split sizes d blocks long
split sizes d blocks long below some whole few =
    let h = here sizes d below (some-drop sizes d some) in
    let n : ℕ = get_or sizes d 0 in
    let m : ℕ = product (drop (d + 1) sizes) in
    let sign : blocks * n * m ≡ blocks * (n * m) = omega arith in
    let all : blocks * n * m ≡ long = sign ∙ ap (λ x. blocks * x) (sym h.product_is) ∙ whole in
    let swap : m * (blocks * n) ≡ blocks * n * m = omega arith in
    record {
      here = h;
      room = omega (arith, at-least m (blocks * n) h.rest_some, swap, all);
      whole = all;
      some = positive blocks n few
          h.some;
    }

-- one dimension more: old is what the cells were, mid after the later dimensions, new after this one
step-at : (n : ℕ) (ns : List ℕ) (k o : ℕ) (old mid new : ℕ → ℕ) → 0 < n
    → ((q r : ℕ) → q < n → r < product ns → mid ((o * n + q) * product ns + r) % k ≡ total_at ns (λ j. old ((o * n + q) * product ns + j)) r % k)
    → ((r : ℕ) → r < product ns → new (o * (n * product ns) + (n - 1) * product ns + r) % k ≡ sum_by (λ e. mid (o * (n * product ns) + e * product ns + r)) (range_with_len 0 n) % k)
    → ((q r : ℕ) → q < n - 1 → r < product ns → new (o * (n * product ns) + q * product ns + r) ≡ mid (o * (n * product ns) + q * product ns + r))
    → (q r : ℕ) → q < n → r < product ns → new (o * (n * product ns) + (q * product ns + r)) % k ≡ total_at (n ∷ ns) (λ j. old (o * (n * product ns) + j)) (q * product ns + r) % k
step-at n ns k o old mid new some later last rest q r row column =
    let m : ℕ = product ns in
    let flat : (e j : ℕ) → (o * n + e) * m + j ≡ o * (n * m) + (e * m + j) = λ e j. omega arith in
    let flat' : (e j : ℕ) → o * (n * m) + e * m + j ≡ o * (n * m) + (e * m + j) = λ e j. omega arith in
    let part : (e : ℕ) → e < n → mid (o * (n * m) + e * m + r) % k ≡ total_at ns (λ j. old (o * (n * m) + (e * m + j))) r % k =
    λ e inside. ap (λ i. mid i % k) (flat' e r ∙ sym (flat e r)) ∙ later e r inside column ∙ ap (λ t. t % k) (total-ext ns (λ j. old ((o * n + e) * m + j)) (λ j. old (o * (n * m) + (e * m + j))) r column (λ j _. ap old (flat e j))) in
    elim (cases_lt q (n - 1)) [
      | inl h ↦
          ap (λ i. new i % k) (sym (flat' q r)) ∙ ap (λ x. x % k) (rest q r h column) ∙ part q row
          ∙ ap (λ t. t % k) (sym (total-other n ns (λ j. old (o * (n * m) + j)) q r column (λ e. omega (arith, e))))
      | inr h ↦
          let here : q ≡ n - 1 = omega arith in
          rw here (ap (λ i. new i % k) (sym (flat' (n - 1) r)) ∙ last r column
          ∙ sum-range-mod _ _ k n part
          ∙ ap (λ t. t % k) (sym (total-last n ns (λ j. old (o * (n * m) + j)) r column)))
    ]

pub totals-step : (sizes : List ℕ) (d blocks k : ℕ) (m : ℕ) (old mid new : ℕ → ℕ) → Here sizes d → m ≡ product (drop (d + 1) sizes)
    → ((o r : ℕ) → o < blocks * get_or sizes d 0 → r < product (drop (d + 1) sizes) → mid (o * product (drop (d + 1) sizes) + r) % k ≡ total_at (drop (d + 1) sizes) (λ j. old (o * product (drop (d + 1) sizes) + j)) r % k)
    → ((o r : ℕ) → o < blocks → r < m → new (o * (get_or sizes d 0 * m) + (get_or sizes d 0 - 1) * m + r) % k ≡ sum_by (λ e. mid (o * (get_or sizes d 0 * m) + e * m + r)) (range_with_len 0 (get_or sizes d 0)) % k)
    → ((o q r : ℕ) → o < blocks → q < get_or sizes d 0 - 1 → r < m → new (o * (get_or sizes d 0 * m) + q * m + r) ≡ mid (o * (get_or sizes d 0 * m) + q * m + r))
    → (o r : ℕ) → o < blocks → r < product (drop d sizes) → new (o * product (drop d sizes) + r) % k ≡ total_at (drop d sizes) (λ j. old (o * product (drop d sizes) + j)) r % k
totals-step sizes d blocks k m old mid new h e later last rest o r before below =
    let n : ℕ = get_or sizes d 0 in
    let ns : List ℕ = drop (d + 1) sizes in
    let within : r < n * product ns = rw h.product_is at below in
    let c = cut n (product ns) r within in
    let goal' : new (o * (n * product ns) + (r / product ns * product ns + r % product ns)) % k ≡ total_at (n ∷ ns) (λ j. old (o * (n * product ns) + j)) (r / product ns * product ns + r % product ns) % k =
    step-at n ns k o old mid new h.some (λ q s row column. later (o * n + q) s (omega (arith, mul-add-lt o n q blocks before row)) column) (λ s column. rw e at (last o s before (rw e column))) (λ q s row column. rw e at (rest o q s before row (rw e column))) (r / product ns) (r % product ns) c.row c.column in
    rw h.is (rw c.whole at goal')

-- all places are one block
pub whole-block : (ns : List ℕ) (k : ℕ) (old new : ℕ → ℕ) (i : ℕ) → new (0 * product ns + i) % k ≡ total_at ns (λ j. old (0 * product ns + j)) i % k → new i % k ≡ total_at ns old i % k
whole-block ns k old new i h =
    let none : (j : ℕ) → 0 * product ns + j ≡ j = λ j. omega arith in
    ap (λ j. new j % k) (sym (none i)) ∙ h ∙ ap (λ (f : ℕ → ℕ). total_at ns f i % k) (fun_ext (λ j. ap old (none j)))

-- nothing is left to be added or taken out
pub none-signed : {A : Type 0} (sign : Sign) (P : A → A → Type 0) (x : A) → P x x → P (totalled sign x x) (plain sign x x)
none-signed Plus P x h = h
none-signed Minus P x h = h

-- A number leads to the places in which it lies.
use Rattle.std.proofs.Common.{◌≡◌, ◌∙◌, sym, ap, subst, refl, ℕ, zero, suc, ◌+◌, ◌-◌, ◌*◌, ◌/◌, ◌%◌, ◌<◌, ◌≤◌, ◌&&◌, ◌||◌, Bool, true, false, List, [], ◌∷◌, drop, length, get_or, arith}
use Rattle.std.specs.Prelude.{◌==◌}
use Rattle.std.proofs.Math.Nat.{mod-eq_of_lt, div-eq_of_lt, div-div-eq-div-mul, div-one}
use Rattle.std.proofs.lemmas.Nat.{div-add-mod', row_fits}
use Rattle.std.proofs.Math.Arith.{mod-mul}
use Rattle.std.proofs.lemmas.Nat.{mod_below, div_below, div-mul-add, mod-mul-add}
use Rattle.tb_model.specs.RowMajor.{product}
use Rattle.tb_grid.specs.Totals.{AreSome}
use Rattle.tb_grid.proofs.Factors.{product-some, product-drop, product-drop-le}
use Rattle.tb_grid.proofs.Sums.{eq-swap, same-place, under}
use Rattle.tb_marks.specs.Raised.{meets, raised, raised_at}

-- a number by its block, its row in it and its column, where n rows of m columns make a block
record Cubed (n m x : ℕ) : Type 0 where
  block : x / (n * m) ≡ x / m / n
  row : x % (n * m) / m ≡ x / m % n
  column : x % (n * m) % m ≡ x % m

cubed : (n m x : ℕ) → 0 < n → 0 < m → Cubed n m x
cubed n m x some-n some-m =
    let turn : n * m ≡ m * n = omega arith in
    let digits : x % (n * m) ≡ (x / m % n) * m + x % m = mod-mul x some-n some-m in
    let low : x % m < m = mod_below x m some-m in
    record {
      block = ap (λ k. x / k) turn ∙ sym (div-div-eq-div-mul x m n);
      row = ap (λ y. y / m) digits ∙ div-mul-add (x / m % n) m (x % m) low;
      column = ap (λ y. y % m) digits ∙ mod-mul-add (x / m % n) m (x % m) low;
    }

-- the raised number
record Up (n m x up : ℕ) : Type 0 where
  row : up / m ≡ x / m / n * n + (n - 1)
  column : up % m ≡ x % m

up : (n m x : ℕ) → 0 < n → 0 < m → Up n m x (x / (n * m) * (n * m) + (n - 1) * m + x % m)
up n m x some-n some-m =
    let c = cubed n m x some-n some-m in
    let low : x % m < m = mod_below x m some-m in
    let q : ℕ = x / m / n in
    let whole : q * (n * m) + (n - 1) * m + x % m ≡ (q * n + (n - 1)) * m + x % m = grind arith in
    rw (c.block, whole) (record { row = div-mul-add (q * n + (n - 1)) m (x % m) low; column = mod-mul-add (q * n + (n - 1)) m (x % m) low })

joined : (a b c u : Bool) → (((a && b) && u) || ((a && c) && u)) ≡ (a && ((b || (true && c)) && u))
joined true true true true = refl
joined true true true false = refl
joined true true false true = refl
joined true true false false = refl
joined true false true true = refl
joined true false true false = refl
joined true false false true = refl
joined true false false false = refl
joined false b c u = refl

-- by whole blocks of places, a number leads to those of its block in which it lies
pub meets-under : (ns : List ℕ) (x i : ℕ) → AreSome ns → meets ns x i ≡ ((x / product ns == i / product ns) && under true ns (i % product ns) (x % product ns))
unfolding meets
meets-under [] x i some = rw (div-one x, div-one i) (elim (x == i) as (λ b. b ≡ (b && true)) [ true ↦ refl | false ↦ refl ])
meets-under (n ∷ ns) x i some =
    let m : ℕ = product ns in
    let rest : 0 < m = product-some ns some.1 in
    let cx = cubed n m x some.0 rest in
    let ci = cubed n m i some.0 rest in
    let u = up n m x some.0 rest in
    let row_i : i / m % n < n = mod_below (i / m) n some.0 in
    let last : n - 1 < n = omega (arith, some.0) in
    let here : i / m / n * n + i / m % n ≡ i / m = div-add-mod' (i / m) n in
    let low : (x / m == i / m) ≡ ((x / m / n == i / m / n) && (x / m % n == i / m % n)) =
    ap (λ k. x / m == k) (sym here) ∙ same-place n (x / m) (i / m / n) (i / m % n) row_i in
    let high : (x / m / n * n + (n - 1) == i / m) ≡ ((x / m / n == i / m / n) && (i / m % n == n - 1)) =
    eq-swap (x / m / n * n + (n - 1)) (i / m) ∙ same-place n (i / m) (x / m / n) (n - 1) last
    ∙ ap (λ b. b && (i / m % n == n - 1)) (eq-swap (i / m / n) (x / m / n)) in
    rw (meets-under ns x i some.1, meets-under ns (raised n ns x) i some.1, u.row, u.column, cx.block, cx.row, cx.column, ci.block, ci.row, ci.column, low, high)
    (joined (x / m / n == i / m / n) (x / m % n == i / m % n) (i / m % n == n - 1) (under true ns (i % m) (x % m)))

-- so it leads to the places in which it lies
pub meets-lies : (ns : List ℕ) (x i : ℕ) → AreSome ns → x < product ns → i < product ns → meets ns x i ≡ under true ns i x
meets-lies ns x i some below here =
    meets-under ns x i some
    ∙ rw (div-eq_of_lt below, div-eq_of_lt here, mod-eq_of_lt below, mod-eq_of_lt here) refl

-- the places before a dimension, times those from it on
product-split : (ns : List ℕ) (d : ℕ) → d ≤ length ns → (q : ℕ) × (product ns ≡ q * product (drop d ns))
product-split ns zero within = (1, omega arith)
product-split [] (suc d) within = absurd (omega (arith, within))
product-split (n ∷ ns) (suc d) within =
    let (q, is) = product-split ns d (omega (arith, within)) in
    let turn : n * (q * product (drop d ns)) ≡ n * q * product (drop d ns) = grind arith in
    (n * q, ap (λ k. n * k) is ∙ turn)

-- what is true of the raised number's parts
pub record Raises (sizes : List ℕ) (d x row : ℕ) : Type 0 where
  pub some : 0 < get_or sizes d 0
  pub row_some : 0 < row
  pub block_some : 0 < get_or sizes d 0 * row
  pub block_few : get_or sizes d 0 * row ≤ product sizes
  pub last : (get_or sizes d 0 - 1) * row + row ≡ get_or sizes d 0 * row
  pub whole : x / (get_or sizes d 0 * row) * (get_or sizes d 0 * row) + get_or sizes d 0 * row ≤ product sizes
  pub column : x % row < row

pub raises : (sizes : List ℕ) (d x row : ℕ) → AreSome sizes → d < length sizes → x < product sizes → row ≡ product (drop (d + 1) sizes) → Raises sizes d x row
raises sizes d x row some there place is =
    let n : ℕ = get_or sizes d 0 in
    let block : product (drop d sizes) ≡ n * row = product-drop sizes d there ∙ ap (λ k. n * k) (sym is) in
    let block_some : 0 < n * row = subst (λ k. 0 < k) block (product-some (drop d sizes) (some-drop sizes d some)) in
    let row_some : 0 < row = subst (λ k. 0 < k) (sym is) (product-some (drop (d + 1) sizes) (some-drop sizes (d + 1) some)) in
    let n_some : 0 < n = factor-some n row block_some in
    let (q, all) = product-split sizes d (omega (arith, there)) in
    let whole : product sizes ≡ q * (n * row) = all ∙ ap (λ k. q * k) block in
    let few : x / (n * row) < q = div_below x (n * row) q block_some (omega (arith, place, whole)) in
    let fits : x / (n * row) * (n * row) + n * row ≤ q * (n * row) = next-block (x / (n * row)) q (n * row) few in
    record {
      some = n_some;
      row_some = row_some;
      block_some = block_some;
      block_few = omega (arith, ap (λ k. k) block, product-drop-le sizes d some);
      last = last-row n row n_some;
      whole = omega (arith, fits, whole);
      column = mod_below x row row_some;
    }
  where
    factor-some : (n row : ℕ) → 0 < n * row → 0 < n
    factor-some zero row h = absurd (omega (arith, h))
    factor-some (suc n) row h = omega arith

    last-row : (n row : ℕ) → 0 < n → (n - 1) * row + row ≡ n * row
    last-row zero row h = absurd (omega (arith, h))
    last-row (suc n) row h = grind arith

    next-block : (a q b : ℕ) → a < q → a * b + b ≤ q * b
    next-block a q b h = row_fits a b q b h (omega arith)

    some-drop : (ns : List ℕ) (d : ℕ) → AreSome ns → AreSome (drop d ns)
    some-drop ns zero some = some
    some-drop [] (suc d) some = tt
    some-drop (n ∷ ns) (suc d) some = some-drop ns d some.1

pub raised-below : (sizes : List ℕ) (d x : ℕ) → AreSome sizes → d < length sizes → x < product sizes → raised_at sizes d x < product sizes
raised-below sizes d x some there place =
    let f = raises sizes d x (product (drop (d + 1) sizes)) some there place refl in
    omega (arith, f.last, f.whole, f.column)

-- How many digits a number has.
use Rattle.std.proofs.Common.{◌≡◌, ℕ, ◌+◌, ◌/◌, ◌<◌, ◌≤◌, ◌^◌, ◌∙◌, ap, arith, length, length-append}
use Rattle.std.specs.Prelude.{decimal}
use Rattle.std.proofs.lemmas.Fmt.{decimal_digit, decimal_step}

-- one more than without the last
step : (n : ℕ) → 10 ≤ n → n < 2 ^ 64 → length (decimal n) ≡ length (decimal (n / 10)) + 1
step n some small = ap length (decimal_step n some small) ∙ length-append (decimal (n / 10)) _

pub count_one : (n : ℕ) → n < 10 → 1 ≡ length (decimal n)
count_one n h = omega (arith, ap length (decimal_digit n h))

pub count_two : (n : ℕ) → 10 ≤ n → n < 100 → 2 ≡ length (decimal n)
count_two n l h = omega (arith, step n l (omega (arith, h)), count_one (n / 10) (omega (arith, h)))

pub count_three : (n : ℕ) → 100 ≤ n → n < 1000 → 3 ≡ length (decimal n)
count_three n l h = omega (arith, step n (omega (arith, l)) (omega (arith, h)), count_two (n / 10) (omega (arith, l)) (omega (arith, h)))

pub count_four : (n : ℕ) → 1000 ≤ n → n < 10000 → 4 ≡ length (decimal n)
count_four n l h = omega (arith, step n (omega (arith, l)) (omega (arith, h)), count_three (n / 10) (omega (arith, l)) (omega (arith, h)))

two_steps : (n : ℕ) → 100 ≤ n → n < 2 ^ 64 → length (decimal n) ≡ length (decimal (n / 100)) + 2
two_steps n l h =
    let same : n / 10 / 10 ≡ n / 100 = omega arith in
    omega (arith, step n (omega (arith, l)) h, step (n / 10) (omega (arith, l)) (omega (arith, h)), ap (λ m. length (decimal m)) same)

-- four more than without the last four
pub count_four_more : (n : ℕ) → 10000 ≤ n → n < 2 ^ 64 → length (decimal n) ≡ length (decimal (n / 10000)) + 4
count_four_more n l h =
    let same : n / 100 / 100 ≡ n / 10000 = omega arith in
    omega (arith, two_steps n (omega (arith, l)) h, two_steps (n / 100) (omega (arith, l)) (omega (arith, h)), ap (λ m. length (decimal m)) same)

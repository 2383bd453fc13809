-- The digits of numbers: plain, few, and read back.
use Rattle.std.proofs.Common.{◌≡◌, ◌∙◌, refl, ap, ℕ, suc, ◌+◌, ◌-◌, ◌*◌, ◌^◌, ◌<◌, ◌≤◌, List, [], ◌∷◌, length, true, false, Some, option_map, arith, ne_eqb, le-leb, lt-ltb}
use Rattle.std.specs.Prelude.{ℤ, pos, negsuc, neg_ℤ, decimal}
use Rattle.std.specs.Char.{digit_value, is_ascii_digit}
use Rattle.std.specs.Fmt.{signed_decimal}
use Rattle.std.specs.List.{list_all}
use Rattle.std.specs.Str.Parse.{AllDigits, digits_value_after}
use Rattle.std.proofs.lemmas.Fmt.{decimal_is_IsNumeral, length-decimal-le}
use Rattle.std.proofs.lemmas.Str.{digit_value_digit}
use Rattle.std.proofs.lemmas.Str.Parse.{digit_from_value}
use Rattle.csv.specs.Writing.{default_writer, needs_byte}
use Rattle.tb_base.specs.Numbers.{number_of, signed_of, value_after}
use Rattle.tb_gen_laws.proofs.Records.{IsPlain}

digit-plain : (c : ℕ) → 48 ≤ c → c ≤ 57 → needs_byte default_writer c ≡ false
digit-plain c low high =
    rw (ne_eqb c 44 (λ e. omega (arith, e, low)), ne_eqb c 34 (λ e. omega (arith, e, low)), ne_eqb c 13 (λ e. omega (arith, e, low)), ne_eqb c 10 (λ e. omega (arith, e, low))) refl

digits-plain : (ds : List ℕ) → AllDigits 10 ds → IsPlain ds
digits-plain [] d = refl
digits-plain (c ∷ cs) d =
    let k = digit_from_value c d.0 in
    rw (digit-plain c k.0 k.1, digits-plain cs d.1) refl

digit-is : (c : ℕ) → 48 ≤ c → c ≤ 57 → is_ascii_digit c ≡ true
digit-is c low high = rw (le-leb 48 c low, le-leb c 57 high) refl

digits-are : (ds : List ℕ) → AllDigits 10 ds → list_all is_ascii_digit ds ≡ true
digits-are [] d = refl
digits-are (c ∷ cs) d =
    let k = digit_from_value c d.0 in
    rw (digit-is c k.0 k.1, digits-are cs d.1) refl

same-value : (n : ℕ) (ds : List ℕ) → AllDigits 10 ds → value_after n ds ≡ digits_value_after 10 n ds
same-value n [] d = refl
same-value n (c ∷ cs) d =
    let k = digit_from_value c d.0 in
    let e : 10 * n + (c - 48) ≡ n * 10 + digit_value c = omega (arith, digit_value_digit c k) in
    ap (λ m. value_after m cs) e ∙ same-value (n * 10 + digit_value c) cs d.1

pub decimal-plain : (n : ℕ) → n < 2 ^ 32 → IsPlain (decimal n)
decimal-plain n small = digits-plain (decimal n) (decimal_is_IsNumeral n (omega (arith, small))).0.1

pub decimal-some : (n : ℕ) → n < 2 ^ 32 → 0 < length (decimal n)
decimal-some n small = (decimal_is_IsNumeral n (omega (arith, small))).0.0

pub decimal-short : (n : ℕ) → n < 2 ^ 32 → length (decimal n) ≤ 10
decimal-short n small = length-decimal-le 10 n (omega arith) (omega (arith, small)) (omega (arith, small))

-- a number of 32 bits is read as it was written
pub number-back : (n : ℕ) → n < 2 ^ 32 → number_of (decimal n) ≡ Some n
number-back n small =
    let is = decimal_is_IsNumeral n (omega (arith, small)) in
    let value : value_after 0 (decimal n) ≡ n = same-value 0 (decimal n) is.0.1 ∙ is.1 in
    rw (le-leb 1 (length (decimal n)) (decimal-some n small), le-leb (length (decimal n)) 10 (decimal-short n small), digits-are (decimal n) is.0.1, value, lt-ltb n (2 ^ 32) small) refl

-- a pvalue that isn't beyond 2
abbrev pub IsSmall : ℤ → Type 0
IsSmall (pos n) = n ≤ 2
IsSmall (negsuc n) = n ≤ 1

digits-signed : (ds : List ℕ) → AllDigits 10 ds → 0 < length ds → signed_of ds ≡ option_map pos (number_of ds)
digits-signed [] d some = absurd (omega (arith, some))
digits-signed (c ∷ cs) d some =
    let k = digit_from_value c d.0 in
    rw (ne_eqb c 45 (λ e. omega (arith, e, k.0))) refl

pub signed-back : (z : ℤ) → IsSmall z → signed_of (signed_decimal z) ≡ Some z
signed-back (pos n) small =
    let is = decimal_is_IsNumeral n (omega (arith, small)) in
    digits-signed (decimal n) is.0.1 is.0.0 ∙ ap (option_map pos) (number-back n (omega (arith, small)))
signed-back (negsuc n) small = ap (option_map (λ n. neg_ℤ (pos n))) (number-back (suc n) (omega (arith, small)))

pub signed-plain : (z : ℤ) → IsSmall z → IsPlain (signed_decimal z)
signed-plain (pos n) small = decimal-plain n (omega (arith, small))
signed-plain (negsuc n) small = decimal-plain (suc n) (omega (arith, small))

pub signed-short : (z : ℤ) → IsSmall z → length (signed_decimal z) ≤ 11
signed-short (pos n) small = omega (arith, decimal-short n (omega (arith, small)))
signed-short (negsuc n) small = omega (arith, decimal-short (suc n) (omega (arith, small)))

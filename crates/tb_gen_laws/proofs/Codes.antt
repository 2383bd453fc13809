-- The codes of the categories: plain, and each found at its own place.
use Rattle.std.proofs.Common.{◌≡◌, ◌≢◌, refl, sym, ap, ℕ, ◌+◌, ◌^◌, ◌<◌, ◌≤◌, List, [], length, map, drop, get_or, false, Some, arith, lt-ltb, inl, inr}
use Rattle.std.specs.Prelude.{bytes_eq}
use Rattle.std.specs.List.{position_or_len, range_with_len}
use Rattle.std.proofs.lemmas.Bool.{cases_Bool}
use Rattle.std.proofs.lemmas.Fmt.{decimal_injective}
use Rattle.std.proofs.lemmas.List.FromFn.{get_or-map-range_with_len, length-map-range_with_len}
use Rattle.std.proofs.lemmas.List.Sums.{position_or_len_is}
use Rattle.tb_base.proofs.Texts.{same_text, text_itself}
use Rattle.tb_gen.specs.Variables.{code_of}
use Rattle.tb_gen.specs.declared.variables.Variable.TheVariants.{Area, Age, Sex, Tenure}
use Rattle.tb_schema.specs.Names.{place_in}
use Rattle.tb_gen_laws.proofs.Digits.{decimal-plain, decimal-short}
use Rattle.tb_gen_laws.proofs.Records.{IsPlain}
use Rattle.tb_gen_laws.specs.Ranges.{list_below}

-- the code of each number is plain, short and its own
pub record IsCoding (code : ℕ → List ℕ) : Type 0 where
  pub plain : (k : ℕ) → k < 2 ^ 31 → IsPlain (code k)
  pub short : (k : ℕ) → k < 2 ^ 31 → length (code k) ≤ 11
  pub own : (j k : ℕ) → j < 2 ^ 31 → k < 2 ^ 31 → code j ≡ code k → j ≡ k

pub areas : IsCoding (code_of Area)
areas = record {
  plain = λ k small. decimal-plain k (omega (arith, small));
  short = λ k small. omega (arith, decimal-short k (omega (arith, small)));
  own = λ j k a b e. decimal_injective j k (omega (arith, a)) (omega (arith, b)) (ap (drop 1) e);
}

pub ages : IsCoding (code_of Age)
ages = record {
  plain = λ k small. decimal-plain k (omega (arith, small));
  short = λ k small. omega (arith, decimal-short k (omega (arith, small)));
  own = λ j k a b e. decimal_injective j k (omega (arith, a)) (omega (arith, b)) e;
}

pub sexes : IsCoding (code_of Sex)
sexes = record {
  plain = λ k small. decimal-plain (k + 1) (omega (arith, small));
  short = λ k small. omega (arith, decimal-short (k + 1) (omega (arith, small)));
  own = λ j k a b e. omega (arith, decimal_injective (j + 1) (k + 1) (omega (arith, a)) (omega (arith, b)) e);
}

pub tenures : IsCoding (code_of Tenure)
tenures = sexes

-- a text of a list is found at its place, where no text before it is the same
pub place-at : (text : ℕ → List ℕ) (n k : ℕ) → k < n → ((j : ℕ) → j < k → text j ≢ text k) → place_in (map text (range_with_len 0 n)) (text k) ≡ Some k
place-at text n k below others =
    let texts = map text (range_with_len 0 n) in
    let count : length (map text (range_with_len 0 n)) ≡ n = length-map-range_with_len text 0 n in
    let at : (j : ℕ) → j < n → get_or (map text (range_with_len 0 n)) j [] ≡ text j = λ j h. get_or-map-range_with_len text 0 n j j [] h (omega arith) in
    let before : (j : ℕ) → j < k → bytes_eq (text k) (get_or (map text (range_with_len 0 n)) j []) ≡ false =
    λ j h. rw (at j (omega (arith, h, below))) (differs (text k) (text j) (λ e. others j h (sym e))) in
    let found : position_or_len (bytes_eq (text k)) (map text (range_with_len 0 n)) ≡ k =
    position_or_len_is (bytes_eq (text k)) (map text (range_with_len 0 n)) k [] (omega (arith, count, below)) before (λ h. rw (at k below) (text_itself (text k))) in
    rw (found, count, lt-ltb k n below) refl
  where
    differs : (a b : List ℕ) → a ≢ b → bytes_eq a b ≡ false
    differs a b ne = elim (cases_Bool (bytes_eq a b)) [
      | inl t ↦ absurd (ne (same_text a b t))
      | inr t ↦ t
    ]

-- each category is found by its code
pub code-found : (code : ℕ → List ℕ) (n k : ℕ) → IsCoding code → n ≤ 101 → k < n → place_in (list_below n code) (code k) ≡ Some k
unfolding list_below
code-found code n k coding few below =
    place-at code n k below (λ j h e. omega (arith, h, coding.own j k (omega (arith, h, below, few)) (omega (arith, below, few)) e))

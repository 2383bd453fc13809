-- The rounds of the generated script.
use Rattle.std.proofs.Common.{◌≡◌, ◌∙◌, refl, ℕ, ◌+◌, ◌*◌, ◌%◌, ◌^◌, ◌<◌, ◌≤◌, false, List, [], ◌∷◌, ◌++◌, length, arith, length-append, ne_eqb}
use Rattle.std.specs.Prelude.{codes, decimal}
use Rattle.std.specs.Str.Parse.{AllDigits}
use Rattle.std.proofs.lemmas.Bool.Decides.{nat_tests}
use Rattle.std.proofs.lemmas.Fmt.{decimal_is_IsNumeral, length-decimal-le}
use Rattle.std.proofs.lemmas.List.Folds.{list_all-append}
use Rattle.std.proofs.lemmas.Nat.{mod_below}
use Rattle.std.proofs.lemmas.Str.Parse.{digit_from_value}
use Rattle.tb_base.specs.Bytes.{is_blank}
use Rattle.tb_gen.specs.Draws.{after, draw, seed}
use Rattle.tb_gen.specs.Lines.{each_below}
use Rattle.tb_gen.specs.Generated.{amend_line, amend_lines, generated_script, round_lines}
use Rattle.tb_script.specs.Lines.{is_too_long}
use Rattle.tb_gen_laws.proofs.ScriptTexts.{AreInside, IsLine, IsText, is_inside, text-both, text-each, text-line, text-within}

-- the lines that are written out
table-lines : IsText (codes "a table AREA by SEX with totals\n") 32
unfolding is_blank
table-lines = text-line (codes "a table AREA by SEX with totals") refl (record { short = refl; formed = refl; known = refl })

where-lines : IsText (codes "b table AGE10 by TENURE where SEX in (1)\n") 41
unfolding is_blank
where-lines = text-line (codes "b table AGE10 by TENURE where SEX in (1)") refl (record { short = refl; formed = refl; known = refl })

publish-lines : IsText (codes "custodian publish\n") 18
unfolding is_blank
publish-lines = text-line (codes "custodian publish") refl (record { short = refl; formed = refl; known = refl })

stats-lines : IsText (codes "custodian stats\n") 16
unfolding is_blank
stats-lines = text-line (codes "custodian stats") refl (record { short = refl; formed = refl; known = refl })

-- digits stand inside a line
digits-inside : (ds : List ℕ) → AllDigits 10 ds → AreInside ds
digits-inside [] d = refl
digits-inside (c ∷ cs) d =
    let k = digit_from_value c d.0 in
    rw (ne_eqb c 10 (λ e. omega (arith, e, k.0)), ne_eqb c 13 (λ e. omega (arith, e, k.0)), digits-inside cs d.1) refl

decimal-inside : (n : ℕ) → n < 10 ^ 7 → AreInside (decimal n)
decimal-inside n small = digits-inside (decimal n) (decimal_is_IsNumeral n (omega (arith, small))).0.1

-- the line of an amend, without its line feed
abbrev amend_text : ℕ → ℕ → List ℕ
amend_text person tenure = codes "custodian amend " ++ decimal person ++ codes " TENURE=" ++ decimal tenure

amend-inside : (person tenure : ℕ) → person < 10 ^ 7 → tenure < 10 → AreInside (amend_text person tenure)
amend-inside person tenure small few =
    list_all-append is_inside (codes "custodian amend " ++ decimal person ++ codes " TENURE=") (decimal tenure)
    ∙ rw (list_all-append is_inside (codes "custodian amend " ++ decimal person) (codes " TENURE="), list_all-append is_inside (codes "custodian amend ") (decimal person), decimal-inside person small, decimal-inside tenure (omega (arith, few))) refl

amend-short : (person tenure : ℕ) → person < 10 ^ 7 → tenure < 10 → length (amend_text person tenure) ≤ 32
amend-short person tenure small few =
    let a = length-append (codes "custodian amend " ++ decimal person ++ codes " TENURE=") (decimal tenure) in
    let b = length-append (codes "custodian amend " ++ decimal person) (codes " TENURE=") in
    let c = length-append (codes "custodian amend ") (decimal person) in
    let p = length-decimal-le 7 person (omega arith) small (omega (arith, small)) in
    let t = length-decimal-le 1 tenure (omega arith) (omega (arith, few)) (omega (arith, few)) in
    omega (arith, a, b, c, p, t)

not-long : (line : List ℕ) → length line ≤ 32 → is_too_long line ≡ false
not-long line h = grind (arith, nat_tests)

amend-good : (person tenure : ℕ) → person < 10 ^ 7 → tenure < 10 → IsLine (amend_text person tenure)
unfolding is_blank
amend-good person tenure small few =
    record { short = not-long (amend_text person tenure) (amend-short person tenure small few); formed = refl; known = refl }

amend-written : (person tenure : ℕ) → person < 10 ^ 7 → tenure < 10 → IsText (amend_text person tenure ++ codes "\n") 33
amend-written person tenure small few =
    let most : length (amend_text person tenure) + 1 ≤ 33 = omega (arith, amend-short person tenure small few) in
    text-within (amend_text person tenure ++ codes "\n") (length (amend_text person tenure) + 1) 33 most
    (text-line (amend_text person tenure) (amend-inside person tenure small few) (amend-good person tenure small few))

module _ (n : ℕ) (some : 0 < n) (few : n ≤ 1000000) where
  amend-is : (x : ℕ) → IsText (amend_line n x) 33
  amend-is x =
      let person : 1 + draw 1 x % n < 10 ^ 7 = omega (arith, few, mod_below (draw 1 x) n some) in
      let tenure : draw 2 x % 5 + 1 < 10 = omega arith in
      amend-written (1 + draw 1 x % n) (draw 2 x % 5 + 1) person tenure

  round-is : (x : ℕ) → IsText (round_lines n x) 1773
  round-is x =
      let tables = codes "a table AREA by SEX with totals\n" in
      let by_age = codes "b table AGE10 by TENURE where SEX in (1)\n" in
      let two = text-both tables by_age 32 41 table-lines where-lines in
      let first = text-both (tables ++ by_age) tables 73 32 two table-lines in
      let amends = text-each 33 (λ i. amend_line n (after (2 * i) x)) 50 (λ i. amend-is (after (2 * i) x)) in
      let edited = text-both (tables ++ by_age ++ tables) (amend_lines n x) 105 1650 first amends in
      text-both (tables ++ by_age ++ tables ++ amend_lines n x) (codes "custodian publish\n") 1755 18 edited publish-lines

  pub script-is : (start : ℕ) → IsText (generated_script n start) 17746
  script-is start =
      let rounds = λ (i : ℕ). round_lines n (after (100 * i) (seed start 2)) in
      text-both (each_below 10 rounds) (codes "custodian stats\n") 17730 16 (text-each 1773 rounds 10 (λ i. round-is (after (100 * i) (seed start 2)))) stats-lines

-- The generated perturbation table is read as its lines.
use Rattle.std.proofs.Common.{◌≡◌, ◌∙◌, refl, sym, ap, ℕ, zero, suc, ◌+◌, ◌*◌, ◌<◌, ◌≤◌, List, [], ◌∷◌, ◌++◌, length, map, false, Option, Some, None, Ok, arith, inl, inr}
use Rattle.std.specs.Prelude.{ℤ, pos, negsuc, neg_ℤ, ◌≤ℤ◌, ◌+ℤ◌, ◌==◌, codes, decimal, flat_map, int_lt, nat_le, nat_lt}
use Rattle.std.specs.Fmt.{signed_decimal}
use Rattle.std.specs.List.{range_with_len}
use Rattle.std.proofs.lemmas.Bool.{cases_Bool}
use Rattle.std.proofs.lemmas.Bool.Decides.{nat_tests}
use Rattle.std.proofs.lemmas.List.{map-append}
use Rattle.std.proofs.lemmas.Int.{clamps, ints}
use Rattle.tb_base.specs.Numbers.{number_of, signed_of}
use Rattle.tb_base.specs.declared.keys.Keys.TheVariants.{K256}
use Rattle.tb_base.specs.declared.limits.TheConstants.{LAST_ROW, LEAST_PVALUE, MOST_PVALUE}
use Rattle.tb_gen.specs.Draws.{after, draw, seed}
use Rattle.tb_gen.specs.Generated.{drawn_pvalue, generated_ptable, row_lines}
use Rattle.tb_gen.specs.Lines.{each_below}
use Rattle.tb_model.specs.declared.names.PerturbationLine.{PerturbationLine}
use Rattle.tb_ptable.specs.Lines.{is_at, line_in, line_of, perturbation_file, perturbation_of, pvalue_in}
use Rattle.tb_ptable.specs.WholeFiles.{AreTable}
use Rattle.tb_ptable.proofs.WholeFiles.{are_table}
use Rattle.tb_rows.specs.Formats.{line_under}
use Rattle.tb_rows.specs.Records.{records_of}
use Rattle.tb_rows.specs.WholeFiles.{AreAccepted, EachGoes, IsFile}
use Rattle.tb_rows.proofs.WholeFiles.{accepted_where}
use Rattle.tb_gen_laws.proofs.Digits.{IsSmall, decimal-plain, decimal-short, decimal-some, number-back, signed-back, signed-plain, signed-short}
use Rattle.tb_gen_laws.proofs.Lengths.{AreShort, length-below, length-line}
use Rattle.tb_gen_laws.proofs.Records.{AreLines, IsRow, header-and-lines, line-each, lines-below, no_bom, row_each, rows_below}
use Rattle.tb_gen_laws.specs.Perturbations.{generated_table, lines_of_row, pair_line}
use Rattle.tb_gen_laws.specs.Ranges.{list_below, lists_below}

-- a drawn pvalue is from -2 to 2, and leaves no count of its row below 0
small-within : (z : ℤ) → neg_ℤ (pos 2) ≤ℤ z → z ≤ℤ pos 2 → IsSmall z
small-within (pos n) low high = omega (arith, ints, high)
small-within (negsuc n) low high = omega (arith, ints, low)

not_less : (a b : ℤ) → b ≤ℤ a → int_lt a b ≡ false
not_less a b h = elim (cases_Bool (int_lt a b)) [
  | inl t ↦ absurd (omega (arith, ints, t, h))
  | inr t ↦ t
]

module _ (pcv value : ℕ) where
  low : neg_ℤ (pos 2) ≤ℤ drawn_pvalue pcv value
  low = omega (arith, ints, clamps)

  high : drawn_pvalue pcv value ≤ℤ pos 2
  high = omega (arith, ints, clamps)

  safe : pos 0 ≤ℤ (pos pcv +ℤ drawn_pvalue pcv value)
  safe = omega (arith, ints, clamps)

  drawn-small : IsSmall (drawn_pvalue pcv value)
  drawn-small = small-within (drawn_pvalue pcv value) low high

-- the fields of a line
abbrev pair_row : ℕ → ℕ → ℕ → List (List ℕ)
pair_row pcv ckey x = decimal pcv ∷ decimal ckey ∷ signed_decimal (drawn_pvalue pcv (draw 1 x)) ∷ []

-- each field is plain, and short
is-row : (pcv ckey x : ℕ) → pcv ≤ LAST_ROW → ckey < 256 → IsRow (pair_row pcv ckey x)
is-row pcv ckey x a b =
    let pvalue = signed-plain (drawn_pvalue pcv (draw 1 x)) (drawn-small pcv (draw 1 x)) in
    (decimal-some pcv (omega (arith, a)), (decimal-plain pcv (omega (arith, a)), (decimal-plain ckey (omega (arith, b)), (pvalue, tt))))

short-row : (pcv ckey x : ℕ) → pcv ≤ LAST_ROW → ckey < 256 → AreShort (pair_row pcv ckey x)
short-row pcv ckey x a b =
    let row : length (decimal pcv) ≤ 11 = omega (arith, decimal-short pcv (omega (arith, a))) in
    let key : length (decimal ckey) ≤ 11 = omega (arith, decimal-short ckey (omega (arith, b))) in
    (row, (key, (signed-short (drawn_pvalue pcv (draw 1 x)) (drawn-small pcv (draw 1 x)), tt)))

-- the fields are read as the line
made : (o p : Option ℕ) (q : Option ℤ) (pcv ckey : ℕ) (pvalue : ℤ) → o ≡ Some pcv → p ≡ Some ckey → q ≡ Some pvalue → line_of K256 o p q ≡ line_of K256 (Some pcv) (Some ckey) (Some pvalue)
made o p q pcv ckey pvalue e f g = rw (e, f, g) refl

in_range : (pcv ckey : ℕ) (pvalue : ℤ) → 0 < pcv → pcv ≤ LAST_ROW → ckey < 256 → neg_ℤ (pos 2) ≤ℤ pvalue → pvalue ≤ℤ pos 2 → pos 0 ≤ℤ (pos pcv +ℤ pvalue)
    → line_of K256 (Some pcv) (Some ckey) (Some pvalue) ≡ Ok (record { pcv = pcv; ckey = ckey; pvalue = pvalue })
in_range pcv ckey pvalue some a b low high safe =
    let row : nat_lt LAST_ROW pcv ≡ false = grind (arith, nat_tests) in
    let key : nat_le 256 ckey ≡ false = grind (arith, nat_tests) in
    let least : int_lt pvalue LEAST_PVALUE ≡ false = not_less pvalue LEAST_PVALUE (omega (arith, ints, low)) in
    let most : int_lt MOST_PVALUE pvalue ≡ false = not_less MOST_PVALUE pvalue (omega (arith, ints, high)) in
    let sum : int_lt (pos pcv +ℤ pvalue) (pos 0) ≡ false = not_less (pos pcv +ℤ pvalue) (pos 0) safe in
    let first : (pcv == 0) ≡ false = grind (arith, nat_tests) in
    rw (row, key, least, most, sum, first) refl

row-read : (pcv ckey x : ℕ) → 0 < pcv → pcv ≤ LAST_ROW → ckey < 256 → line_in K256 (pair_row pcv ckey x) ≡ Ok (pair_line pcv ckey x)
row-read pcv ckey x some a b =
    let pvalue = drawn_pvalue pcv (draw 1 x) in
    made (number_of (decimal pcv)) (number_of (decimal ckey)) (signed_of (signed_decimal pvalue)) pcv ckey pvalue
    (number-back pcv (omega (arith, a))) (number-back ckey (omega (arith, b))) (signed-back pvalue (drawn-small pcv (draw 1 x)))
    ∙ in_range pcv ckey pvalue some a b (low pcv (draw 1 x)) (high pcv (draw 1 x)) (safe pcv (draw 1 x))

-- the header, and where the columns stand in it
abbrev indices : List ℕ
indices = 0 ∷ 1 ∷ 2 ∷ []

abbrev header : List (List ℕ)
header = codes "pcv" ∷ codes "ckey" ∷ codes "pvalue" ∷ []

-- the fields and the line of each cell key of a row
abbrev fields_at_key : ℕ → ℕ → ℕ → List (List ℕ)
fields_at_key pcv x ckey = pair_row pcv ckey (after ckey x)

abbrev line_at_key : ℕ → ℕ → ℕ → PerturbationLine
line_at_key pcv x ckey = pair_line pcv ckey (after ckey x)

-- the lines of a row, and those of all rows
each-from : (pcv x a n : ℕ) → 0 < pcv → pcv ≤ LAST_ROW → a + n ≤ 256
    → map (line_under (perturbation_file K256) 3 indices) (map (fields_at_key pcv x) (range_with_len a n)) ≡ map (λ line. Ok line) (map (line_at_key pcv x) (range_with_len a n))
each-from pcv x a zero some last keys = refl
each-from pcv x a (suc n) some last keys =
    ap (λ r. r ∷ map (line_under (perturbation_file K256) 3 indices) (map (fields_at_key pcv x) (range_with_len (a + 1) n))) (row-read pcv a (after a x) some last (omega (arith, keys)))
    ∙ ap (λ rs. Ok (line_at_key pcv x a) ∷ rs) (each-from pcv x (a + 1) n some last (omega (arith, keys)))

each-of-row : (pcv x n : ℕ) → 0 < pcv → pcv ≤ LAST_ROW → n ≤ 256
    → map (line_under (perturbation_file K256) 3 indices) (row_each n (fields_at_key pcv x)) ≡ map (λ line. Ok line) (list_below n (line_at_key pcv x))
unfolding row_each list_below
each-of-row pcv x n some last keys = each-from pcv x 0 n some last (omega (arith, keys))

-- the fields and the lines of a row
abbrev state : ℕ → ℕ → ℕ
state start i = after (256 * i) (seed start 1)

abbrev row_fields : ℕ → ℕ → List (List (List ℕ))
row_fields start i = row_each 256 (fields_at_key (i + 1) (state start i))

abbrev lines_at : ℕ → ℕ → List PerturbationLine
lines_at start i = lines_of_row (i + 1) (state start i)

rows-from : (start a n : ℕ) → a + n ≤ LAST_ROW
    → map (line_under (perturbation_file K256) 3 indices) (flat_map (row_fields start) (range_with_len a n)) ≡ map (λ line. Ok line) (flat_map (lines_at start) (range_with_len a n))
rows-from start a zero last = refl
rows-from start a (suc n) last =
    let under = line_under (perturbation_file K256) 3 indices in
    map-append (line_under (perturbation_file K256) 3 indices) (row_fields start a) (flat_map (row_fields start) (range_with_len (a + 1) n))
    ∙ ap (λ rs. rs ++ map under (flat_map (row_fields start) (range_with_len (a + 1) n))) (each-of-row (a + 1) (state start a) 256 (omega arith) (omega (arith, last)) (omega arith))
    ∙ ap (λ rs. map (λ line. Ok line) (lines_at start a) ++ rs) (rows-from start (a + 1) n (omega (arith, last)))
    ∙ sym (map-append (λ line. Ok line) (lines_at start a) (flat_map (lines_at start) (range_with_len (a + 1) n)))

each-of-rows : (start n : ℕ) → n ≤ LAST_ROW
    → map (line_under (perturbation_file K256) 3 indices) (rows_below n (row_fields start)) ≡ map (λ line. Ok line) (lists_below n (lines_at start))
unfolding rows_below lists_below
each-of-rows start n last = rows-from start 0 n (omega (arith, last))

-- the number of a line's row and cell key among all
abbrev order_of : PerturbationLine → ℕ
order_of line = 256 * line.pcv + line.ckey

-- the lines' numbers ascend, from one on and below another
abbrev Ascend : ℕ → ℕ → List PerturbationLine → Type 0
Ascend a b [] = a ≤ b
Ascend a b (line ∷ lines) = (a ≤ order_of line) × Ascend (order_of line + 1) b lines

ascend-before : (a b c : ℕ) (lines : List PerturbationLine) → a ≤ b → Ascend b c lines → Ascend a c lines
ascend-before a b c [] h s = omega (arith, h, s)
ascend-before a b c (line ∷ lines) h s = (omega (arith, h, s.0), s.1)

ascend-append : (a b c : ℕ) (lines more : List PerturbationLine) → Ascend a b lines → Ascend b c more → Ascend a c (lines ++ more)
ascend-append a b c [] more s t = ascend-before a b c more s t
ascend-append a b c (line ∷ lines) more s t = (s.0, ascend-append (order_of line + 1) b c lines more s.1 t)

keys-ascend : (pcv x a n low high : ℕ) → low ≤ 256 * pcv + a → 256 * pcv + (a + n) ≤ high → Ascend low high (map (line_at_key pcv x) (range_with_len a n))
keys-ascend pcv x a zero low high h k = omega (arith, h, k)
keys-ascend pcv x a (suc n) low high h k = (h, keys-ascend pcv x (a + 1) n (256 * pcv + a + 1) high (omega arith) (omega (arith, k)))

row-ascends : (pcv x n low high : ℕ) → low ≤ 256 * pcv → 256 * pcv + n ≤ high → Ascend low high (list_below n (line_at_key pcv x))
unfolding list_below
row-ascends pcv x n low high h k = keys-ascend pcv x 0 n low high (omega (arith, h)) (omega (arith, k))

rows-ascend : (start a n low high : ℕ) → low ≤ 256 * (a + 1) → 256 * (a + n + 1) ≤ high → Ascend low high (flat_map (lines_at start) (range_with_len a n))
rows-ascend start a zero low high h k = omega (arith, h, k)
rows-ascend start a (suc n) low high h k =
    ascend-append low (256 * (a + 2)) high (lines_at start a) (flat_map (lines_at start) (range_with_len (a + 1) n))
    (row-ascends (a + 1) (state start a) 256 low (256 * (a + 2)) h (omega arith)) (rows-ascend start (a + 1) n (256 * (a + 2)) high (omega arith) (omega (arith, k)))

all-ascend : (start n : ℕ) → Ascend 0 (256 * (n + 1)) (lists_below n (lines_at start))
unfolding lists_below
all-ascend start n = rows-ascend start 0 n 0 (256 * (n + 1)) (omega arith) (omega arith)

-- where all lines have lower numbers, a pair is new
abbrev AreBelow : ℕ → List PerturbationLine → Type 0
AreBelow n [] = Unit {0}
AreBelow n (line ∷ lines) = (order_of line < n) × AreBelow n lines

below-more : (m n : ℕ) (lines : List PerturbationLine) → m ≤ n → AreBelow m lines → AreBelow n lines
below-more m n [] h s = tt
below-more m n (line ∷ lines) h s = (omega (arith, h, s.0), below-more m n lines h s.1)

below-push : (n : ℕ) (lines : List PerturbationLine) (line : PerturbationLine) → AreBelow n lines → order_of line < n → AreBelow n (lines ++ line ∷ [])
below-push n [] line s h = (h, tt)
below-push n (x ∷ lines) line s h = (s.0, below-push n lines line s.1 h)

new-pair : (lines : List PerturbationLine) (pcv ckey : ℕ) → AreBelow (256 * pcv + ckey) lines → pvalue_in lines pcv ckey ≡ None
new-pair [] pcv ckey s = refl
new-pair (x ∷ lines) pcv ckey s =
    let first = s.0 in
    let other : is_at pcv ckey x ≡ false = grind (arith, nat_tests) in
    rw other (new-pair lines pcv ckey s.1)

each-goes : (lines before : List PerturbationLine) (low high : ℕ) → AreBelow low before → Ascend low high lines → EachGoes (λ before line. pvalue_in before line.pcv line.ckey ≡ None) before lines
each-goes [] before low high b s = tt
each-goes (line ∷ lines) before low high b s = (
  new-pair before line.pcv line.ckey (below-more low (order_of line) before s.0 b),
  each-goes lines (before ++ line ∷ []) (order_of line + 1) high (below-push (order_of line + 1) before line (below-more low (order_of line + 1) before (omega (arith, s.0)) b) (omega arith)) s.1,
)

module _ (start : ℕ) where
  abbrev text_of_row : ℕ → List ℕ
  text_of_row i = row_lines (i + 1) (state start i)

  lines : AreLines (each_below LAST_ROW text_of_row) (rows_below LAST_ROW (row_fields start))
  lines =
      lines-below LAST_ROW text_of_row (row_fields start)
      (λ i below. line-each 256 (fields_at_key (i + 1) (state start i)) (λ ckey key. is-row (i + 1) ckey (after ckey (state start i)) (omega (arith, below)) key))

  records-are : records_of (generated_ptable start) ≡ header ∷ rows_below LAST_ROW (row_fields start)
  records-are =
      header-and-lines (codes "pcv,ckey,pvalue\n") (each_below LAST_ROW text_of_row) header (rows_below LAST_ROW (row_fields start))
      refl (omega arith, (refl, (refl, (refl, tt)))) lines (no_bom 112 _ (λ e. omega (arith, e)))

  pub table-accepted : perturbation_of K256 (generated_ptable start) ≡ Ok (generated_table start)
  table-accepted =
      let records = rows_below LAST_ROW (row_fields start) in
      let all = lists_below LAST_ROW (lines_at start) in
      let file : IsFile (perturbation_file K256) (generated_ptable start) 3 indices (rows_below LAST_ROW (row_fields start)) = (header, records-are, refl, refl) in
      let are : AreAccepted (perturbation_file K256) AreTable 3 indices (rows_below LAST_ROW (row_fields start)) (lists_below LAST_ROW (lines_at start)) (lists_below LAST_ROW (lines_at start)) = record {
        each = each-of-rows start LAST_ROW (omega arith);
        together = (each-goes (lists_below LAST_ROW (lines_at start)) [] 0 (256 * (LAST_ROW + 1)) tt (all-ascend start LAST_ROW), refl);
      } in
      (accepted_where (perturbation_file K256) AreTable (are_table K256) (generated_ptable start) (generated_table start)).1
      (3, indices, records, all, all, file, are, refl)

  -- 750 rows of 256 lines of 37 bytes, and the header
  pub table-short : length (generated_ptable start) ≤ 268435456
  table-short =
      omega (
        arith,
        length-below LAST_ROW (256 * 37) text_of_row
            (λ i below. length-below 256 37 _ (λ ckey key. length-line (fields_at_key (i + 1) (state start i) ckey) (short-row (i + 1) ckey (after ckey (state start i)) (omega (arith, below)) key))),
      )

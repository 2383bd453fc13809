-- Texts of lines that are good in any script which has three lanes.
use Rattle.std.proofs.Common.{◌≡◌, ◌≢◌, ◌∙◌, refl, sym, ap, subst, ℕ, zero, suc, ◌+◌, ◌-◌, ◌*◌, ◌<◌, ◌≤◌, Bool, true, false, not, ◌||◌, ◌&&◌, ◌==◌, List, [], ◌∷◌, ◌++◌, length, map, take, slice_index, None, arith, inl, inr, append-nil, length-append, eq-eqb, ne_eqb}
use Rattle.std.specs.Prelude.{Ok, bytes_eq, codes, flat_map, if◌then◌else◌, nat_le, nat_lt}
use Rattle.std.specs.Cmp.{IsEquivalence}
use Rattle.std.specs.List.{All, IsDistinct, list_all, list_any, range_with_len}
use Rattle.std.proofs.lemmas.Bool.{cases_Bool}
use Rattle.std.proofs.lemmas.Bool.Decides.{nat_tests}
use Rattle.std.proofs.lemmas.List.{get_or_append_left, get_or_at, map-append}
use Rattle.std.proofs.lemmas.List.Elements.{All-append, All-cons, All-head, All-nil, All-push, All-tail}
use Rattle.std.proofs.lemmas.Map.Made.{length-le_from_is_member}
use Rattle.std.proofs.Math.Seq.{get_or-append_right, take-append_seam}
use Rattle.bstr.specs.Text.{lines_of, no_cr, without_terminator}
use Rattle.bstr.proofs.lemmas.LineLemmas.{EndsLine, lines-append, lines-nil, lines-one}
use Rattle.indexmap.specs.IndexSet.{insert_all, insert_key}
use Rattle.tb_base.proofs.Texts.{same_text, text_itself}
use Rattle.tb_gen.specs.Lines.{each_below}
use Rattle.tb_schema.proofs.Distinct.{distinct-push, either_way}
use Rattle.tb_script.specs.Lines.{is_lane_line, is_phase_end, is_too_long, is_well_formed, lane_of, line_of}
use Rattle.tb_script.specs.declared.limits.TheConstants.{MOST_LANES}
use Rattle.tb_script.specs.Scripts.{ScriptLine, first_bad, is_bad, is_too_many, lane_lines, lanes_before, script_lines, script_of, script_value, value_unless}

-- the three lanes
abbrev three : List (List ℕ)
three = codes "a" ∷ codes "b" ∷ codes "custodian" ∷ []

abbrev is_known : List ℕ → Bool
is_known name = list_any (bytes_eq name) three

abbrev IsKnown : List ℕ → Type 0
IsKnown name = is_known name ≡ true

-- a line is short and well formed, and is of one of these lanes
pub record IsLine (line : List ℕ) : Type 0 where
  pub short : is_too_long line ≡ false
  pub formed : is_well_formed line ≡ true
  pub known : IsKnown (lane_of line)

-- different names of these lanes
record AreLanes (lanes : List (List ℕ)) : Type 0 where
  distinct : IsDistinct bytes_eq lanes
  known : All IsKnown lanes

lanes-none : AreLanes []
unfolding IsDistinct
lanes-none = record { distinct = tt; known = All-nil IsKnown }

lanes-more : (lanes : List (List ℕ)) (name : List ℕ) → AreLanes lanes → IsKnown name → AreLanes (insert_key bytes_eq lanes name)
lanes-more lanes name are known = elim (cases_Bool (list_any (bytes_eq name) lanes)) [
  | inl t ↦ rw t are
  | inr t ↦ rw t (record { distinct = distinct-push lanes name are.distinct t; known = All-push IsKnown lanes name are.known known })
]

lanes-all : (lanes names : List (List ℕ)) → AreLanes lanes → All IsKnown names → AreLanes (insert_all bytes_eq lanes names)
lanes-all lanes [] are known = are
lanes-all lanes (name ∷ names) are known =
    lanes-all (insert_key bytes_eq lanes name) names (lanes-more lanes name are (All-head IsKnown name names known)) (All-tail IsKnown name names known)

texts_equal : IsEquivalence bytes_eq
texts_equal = record { refl = text_itself; symm = either_way; congr = λ x y z h. ap (λ a. bytes_eq a z) (same_text x y h) }

-- what is one of names of these lanes is one itself
member-known : (names : List (List ℕ)) (name : List ℕ) → All IsKnown names → list_any (bytes_eq name) names ≡ true → IsKnown name
member-known [] name known h = cc
member-known (x ∷ names) name known h = elim (cases_Bool (bytes_eq name x)) [
  | inl t ↦ subst IsKnown (sym (same_text name x t)) (All-head IsKnown x names known)
  | inr t ↦ member-known names name (All-tail IsKnown x names known) (rw t at h)
]

-- so they are three at most
lanes-few : (lanes : List (List ℕ)) → AreLanes lanes → length lanes ≤ 3
lanes-few lanes are = length-le_from_is_member texts_equal lanes three are.distinct (λ name h. member-known lanes name are.known h)

-- the lanes of some lines
abbrev lanes : List ScriptLine → List (List ℕ)
lanes lines = map (λ l. l.lane) lines

lanes-first : (e p : Bool) (later more : List ScriptLine) (l : ScriptLine) → All IsKnown (lanes later) → All IsKnown (lanes more) → IsKnown l.lane
    → All IsKnown (lanes (if e then later else if p then more else l ∷ more))
lanes-first true p later more l a b known = a
lanes-first false true later more l a b known = b
lanes-first false false later more l a b known = All-cons IsKnown l.lane (lanes more) known b

lines-known : (phase : ℕ) (lines : List (List ℕ)) → All IsLine lines → All IsKnown (lanes (lane_lines phase lines))
lines-known phase [] are = All-nil IsKnown
lines-known phase (line ∷ lines) are =
    let rest = λ (p : ℕ). lines-known p lines (All-tail IsLine line lines are) in
    let l : ScriptLine = record { phase = phase; lane = lane_of line; line = line_of line } in
    lanes-first (is_phase_end line) _ (lane_lines (phase + 1) lines) (lane_lines phase lines) l (rest (phase + 1)) (rest phase) (All-head IsLine line lines are).known

and_false : (a : Bool) → (a && false) ≡ false
and_false true = refl
and_false false = refl

-- beside others a line is good
line-good : (before : List (List ℕ)) (line : List ℕ) → All IsLine before → IsLine line → is_bad (lanes_before before) line ≡ false
line-good before line are is =
    let few : length (lanes_before before) ≤ 3 = lanes-few (lanes_before before) (lanes-all [] (lanes (lane_lines 1 before)) lanes-none (lines-known 1 before are)) in
    let room : is_too_many (lanes_before before) (lane_of line) ≡ false = rw (above MOST_LANES (length (lanes_before before)) (omega (arith, few))) refl in
    rw (is.short, is.formed, room) (and_false (is_lane_line line))
  where
    above : (a b : ℕ) → b < a → nat_le a b ≡ false
    above a b h = grind (arith, nat_tests)

none-bad : (before lines : List (List ℕ)) → All IsLine before → All IsLine lines → first_bad before lines ≡ None
none-bad before [] are more = refl
none-bad before (line ∷ lines) are more =
    let is = All-head IsLine line lines more in
    rw (line-good before line are is) (none-bad (before ++ line ∷ []) lines (All-push IsLine before line are is) (All-tail IsLine line lines more))

-- a text ends with a line feed, where it isn't empty, its lines are good, and it has at most so many bytes
pub record IsText (text : List ℕ) (most : ℕ) : Type 0 where
  pub ends : EndsLine text
  pub lines : All IsLine (script_lines text)
  pub short : length text ≤ most

-- such a text is a script
pub text-accepted : (text : List ℕ) (most : ℕ) → IsText text most → script_of text ≡ Ok (script_value (script_lines text))
text-accepted text most is = ap (λ found. value_unless found (script_value (script_lines text))) (none-bad [] (script_lines text) (All-nil IsLine) is.lines)

-- it has at most more bytes, too
pub text-within : (text : List ℕ) (m n : ℕ) → m ≤ n → IsText text m → IsText text n
text-within text m n h is = record { ends = is.ends; lines = is.lines; short = omega (arith, is.short, h) }

pub text-none : IsText [] 0
text-none = record { ends = inl refl; lines = subst (λ ls. All IsLine (map without_terminator ls)) (sym lines-nil) (All-nil IsLine); short = omega arith }

ends-both : (a b : List ℕ) → EndsLine a → EndsLine b → EndsLine (a ++ b)
ends-both a [] x y = subst EndsLine (sym (append-nil a)) x
ends-both a (c ∷ b) x y = inr (get_or-append_right a (c ∷ b) (length (a ++ c ∷ b) - 1) 0 (omega (arith, long)) ∙ ap (slice_index (c ∷ b)) place ∙ last y)
  where
    long : length (a ++ c ∷ b) ≡ length a + length (c ∷ b)
    long = length-append a (c ∷ b)

    place : length (a ++ c ∷ b) - 1 - length a ≡ length (c ∷ b) - 1
    place = omega (arith, long)

    last : EndsLine (c ∷ b) → slice_index (c ∷ b) (length (c ∷ b) - 1) ≡ 10
    last (inl none) = absurd (omega (arith, none))
    last (inr is) = is

-- one text after another
pub text-both : (a b : List ℕ) (m n : ℕ) → IsText a m → IsText b n → IsText (a ++ b) (m + n)
text-both a b m n x y =
    let all : script_lines (a ++ b) ≡ script_lines a ++ script_lines b =
    ap (map without_terminator) (lines-append (length a) a b (omega arith) x.ends) ∙ map-append without_terminator (lines_of a) (lines_of b) in
    record {
      ends = ends-both a b x.ends y.ends;
      lines = subst (All IsLine) (sym all) (All-append IsLine (script_lines a) (script_lines b) x.lines y.lines);
      short = omega (arith, length-append a b, x.short, y.short);
    }

-- a text for each of some numbers
texts-from : (most : ℕ) (texts : ℕ → List ℕ) → ((i : ℕ) → IsText (texts i) most) → (n i : ℕ) → IsText (flat_map texts (range_with_len i n)) (n * most)
texts-from most texts each zero i = let none : 0 ≡ 0 * most = omega arith in subst (IsText []) none text-none
texts-from most texts each (suc n) i =
    let both = text-both (texts i) (flat_map texts (range_with_len (i + 1) n)) most (n * most) (each i) (texts-from most texts each n (i + 1)) in
    let same : most + n * most ≡ suc n * most = omega arith in
    subst (IsText (texts i ++ flat_map texts (range_with_len (i + 1) n))) same both

pub text-each : (most : ℕ) (texts : ℕ → List ℕ) (n : ℕ) → ((i : ℕ) → IsText (texts i) most) → IsText (each_below n texts) (n * most)
unfolding each_below
text-each most texts n each = texts-from most texts each n 0

-- a byte that may stand inside a line
abbrev pub is_inside : ℕ → Bool
is_inside b = not ((b == 10) || (b == 13))

abbrev pub AreInside : List ℕ → Type 0
AreInside line = list_all is_inside line ≡ true

no-end : (line : List ℕ) (k : ℕ) → AreInside line → k < length line → (slice_index line k ≢ 10) × (slice_index line k ≢ 13)
no-end [] k h l = absurd (omega (arith, l))
no-end (b ∷ line) zero h l = ((λ e. let g = rw e at h in cc), (λ e. let g = rw e at h in cc))
no-end (b ∷ line) (suc k) h l = elim (cases_Bool (is_inside b)) [
  | inl t ↦ no-end line k (rw t at h) (omega (arith, l))
  | inr t ↦ let g = rw t at h in cc
]

last-feed : (line : List ℕ) → slice_index (line ++ 10 ∷ []) (length (line ++ 10 ∷ []) - 1) ≡ 10
last-feed line = get_or_at line 10 [] 0 (length (line ++ 10 ∷ []) - 1) (omega (arith, length-append line (10 ∷ [])))

-- without its line feed it is itself
positive : (n : ℕ) → 0 < n → nat_lt 0 n ≡ true
positive n h = grind (arith, nat_tests)

no-return : (line : List ℕ) → AreInside line → no_cr line ≡ line
no-return [] h = refl
no-return (b ∷ line) h =
    let other = no-end (b ∷ line) (length (b ∷ line) - 1) h (omega arith) in
    rw (positive (length (b ∷ line)) (omega arith), ne_eqb (slice_index (b ∷ line) (length (b ∷ line) - 1)) 13 other.1) refl

without-feed : (line : List ℕ) → AreInside line → without_terminator (line ++ 10 ∷ []) ≡ line
without-feed line h =
    let long = length-append line (10 ∷ []) in
    let count : length (line ++ 10 ∷ []) - 1 ≡ length line = omega (arith, long) in
    let front : take (length (line ++ 10 ∷ []) - 1) (line ++ 10 ∷ []) ≡ line = ap (λ n. take n (line ++ 10 ∷ [])) count ∙ take-append_seam line (10 ∷ []) in
    rw (positive (length (line ++ 10 ∷ [])) (omega (arith, long)), eq-eqb (slice_index (line ++ 10 ∷ []) (length (line ++ 10 ∷ []) - 1)) 10 (last-feed line), front) (no-return line h)

feed-last : (line : List ℕ) (k : ℕ) → AreInside line → k + 1 < length (line ++ 10 ∷ []) → slice_index (line ++ 10 ∷ []) k ≢ 10
feed-last line k h l e =
    let inside : k < length line = omega (arith, l, length-append line (10 ∷ [])) in
    (no-end line k h inside).0 (sym (get_or_append_left line (10 ∷ []) 0 k inside) ∙ e)

pub one-line : (line : List ℕ) → AreInside line → script_lines (line ++ 10 ∷ []) ≡ line ∷ []
one-line line h =
    ap (map without_terminator) (lines-one (line ++ 10 ∷ []) (omega (arith, length-append line (10 ∷ []))) (λ k l. feed-last line k h l))
    ∙ ap (λ l. l ∷ []) (without-feed line h)

-- a line with its line feed
pub text-line : (line : List ℕ) → AreInside line → IsLine line → IsText (line ++ 10 ∷ []) (length line + 1)
text-line line h is = record {
  ends = inr (last-feed line);
  lines = subst (All IsLine) (sym (one-line line h)) (All-cons IsLine line [] is (All-nil IsLine));
  short = omega (arith, length-append line (10 ∷ []));
}

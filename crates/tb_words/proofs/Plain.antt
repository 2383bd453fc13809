-- What clap makes of words that aren't options, at a command whose arguments are positions of one value each.
use Rattle.std.proofs.Common.{◌≡◌, ◌∙◌, ap, sym, refl, ℕ, Bool, true, false, not, ◌&&◌, List, [], ◌∷◌, Option, Some, None, fold}
use Rattle.std.specs.Prelude.{◌==◌, find}
use Rattle.std.specs.List.{list_all}
use Rattle.std.specs.Str.{bytes_eq}
use Rattle.clap.specs.Lexer.{long_of, short_of}
use Rattle.clap.specs.Simple.{Shape}
use Rattle.clap.specs.Takes.{default_passes, is_valid, level_passes, other_passes, settle_passes, step_passes, walk_passes}
use Rattle.clap.specs.Walk.{Held, Rule, Step, Text, Walk, after_step, arg_by_index, finished, idle, is_multiple, next_position, nothing_held, positional_held, rows_after, to_positional, value, walked, word_met}
use Rattle.tb_words.specs.Words.{is_plain}

-- a walk between two words, while no option waits and no subcommand was met
abbrev at : Held → ℕ → Walk
at h position = record { held = h; waiting = idle; position = position; is_trailing = false; stopped = None }

-- where the next word goes
abbrev placed : List Rule → Option Rule → Text → Held → ℕ → Held × ℕ
placed c None word h position = (h, position)
placed c (Some a) word h position = (positional_held c a word h, next_position a position)

abbrev pub next_place : List Rule → Held × ℕ → Text → Held × ℕ
next_place c p word = placed c (arg_by_index c p.1) word p.0 p.1

-- a position of one value
abbrev pub is_single : Rule → Bool
is_single a = not (is_multiple a) && not a.trailing_var_arg

pub both : (a b : Bool) → (a && b) ≡ true → (a ≡ true) × (b ≡ true)
both true b h = (refl, h)
both false b h = cc

pub is_false : (b : Bool) → not b ≡ true → b ≡ false
is_false true h = cc
is_false false h = refl

-- a plain word is no option, and not `--`
no_option : (word : Text) → is_plain word ≡ true
    → (bytes_eq word (45 ∷ 45 ∷ []) ≡ false) × (long_of word ≡ None) × (short_of word ≡ None)
no_option [] h = cc
no_option (x ∷ word) h = let other : (x == 45) ≡ false = is_false (x == 45) h in (rw other refl, rw other refl, rw other refl)

plain_met : (c : List Rule) (position : ℕ) (word : Text) (h : Held) → is_plain word ≡ true
    → word_met c [] false idle position word h ≡ (h, value)
plain_met c position word h plain = let (dashes, long, short) = no_option word plain in rw (dashes, long, short) refl

-- an argument that is found is one of the list
found_one : (p q : Rule → Bool) (xs : List Rule) (a : Rule) → list_all q xs ≡ true → find p xs ≡ Some a → q a ≡ true
found_one p q [] a all is = cc
found_one p q (x ∷ xs) a all is =
    go (p x) refl (both (q x) (list_all q xs) all).0 (found_one p q xs a (both (q x) (list_all q xs) all).1)
  where
    go : (b : Bool) → p x ≡ b → q x ≡ true → (find p xs ≡ Some a → q a ≡ true) → q a ≡ true
    go true here first rest =
        let found : Some x ≡ Some a = rw here at is in
        let same : x ≡ a = cc in
        ap q (sym same) ∙ first
    go false there first rest = rest (rw there at is)

to_place : (c : List Rule) (o : Option Rule) (word : Text) (h : Held) (position : ℕ) → ((a : Rule) → o ≡ Some a → is_single a ≡ true)
    → to_positional c o word (at h position) h ≡ at (placed c o word h position).0 (placed c o word h position).1
to_place c None word h position single = refl
to_place c (Some a) word h position single =
    let (one, more) = both (not (is_multiple a)) (not a.trailing_var_arg) (single a refl) in
    let several = is_false (is_multiple a) one in
    let trailing = is_false a.trailing_var_arg more in
    rw (several, trailing) refl

walked_plain : (c : List Rule) (h : Held) (position : ℕ) (word : Text) → list_all is_single c ≡ true → is_plain word ≡ true
    → walked c [] (at h position) word ≡ at (next_place c (h, position) word).0 (next_place c (h, position) word).1
unfolding walked
walked_plain c h position word single plain =
    ap (λ (met : Held × Step). after_step c word (at h position) met.0 met.1) (plain_met c position word h plain)
    ∙ to_place c (arg_by_index c position) word h position (λ a is. found_one _ is_single c a single is)

-- the walk over plain words
pub walk_plain : (c : List Rule) (words : List Text) (h : Held) (position : ℕ) → list_all is_single c ≡ true
    → list_all is_plain words ≡ true
    → fold (walked c []) (at h position) words
    ≡ at (fold (next_place c) (h, position) words).0 (fold (next_place c) (h, position) words).1
walk_plain c [] h position single plain = refl
walk_plain c (word ∷ words) h position single plain =
    let (first, rest) = both (is_plain word) (list_all is_plain words) plain in
    let next = next_place c (h, position) word in
    ap (λ (w : Walk). fold (walked c []) w words) (walked_plain c h position word single first)
    ∙ walk_plain c words next.0 next.1 single rest

-- each word passes where its position takes it
abbrev pub places_pass : Shape → Held → ℕ → List Text → Bool
places_pass s h position [] = true
places_pass s h position (word ∷ words) =
    let next = next_place s.rules (h, position) word in
    step_passes s position h value && places_pass s next.0 next.1 words

plain_passes : (s : Shape) (word : Text) (h : Held) → is_plain word ≡ true → other_passes s None word h ≡ true
plain_passes s word h plain = let (dashes, long, short) = no_option word plain in rw (dashes, long, short) refl

passes_plain : (s : Shape) (words : List Text) (h : Held) (position : ℕ) → list_all is_single s.rules ≡ true
    → list_all is_plain words ≡ true → walk_passes s [] (at h position) words ≡ places_pass s h position words
unfolding walk_passes
passes_plain s [] h position single plain = refl
passes_plain s (word ∷ words) h position single plain =
    let (first, rest) = both (is_plain word) (list_all is_plain words) plain in
    let next = next_place s.rules (h, position) word in
    rw (plain_passes s word h first, plain_met s.rules position word h first, walked_plain s.rules h position word single first)
    (ap (λ b. step_passes s position h value && b) (passes_plain s words next.0 next.1 single rest))

-- a command of positions passes
abbrev pub positions_pass : Shape → List Text → Bool
positions_pass s words =
    let end = (fold (next_place s.rules) (nothing_held, 1) words).0 in
    places_pass s nothing_held 1 words && (settle_passes s.rules s.args_override_self end
    && (list_all default_passes s.rules && is_valid s (finished s.rules end) false))

pub level_plain : (s : Shape) (words : List Text) → list_all is_single s.rules ≡ true → list_all is_plain words ≡ true
    → level_passes s [] nothing_held words false ≡ positions_pass s words
level_plain s words single plain =
    let walk = walk_plain s.rules words nothing_held 1 single plain in
    rw (walk, passes_plain s words nothing_held 1 single plain) refl

-- and has these matches
pub rows_plain : (c : List Rule) (words : List Text) → list_all is_single c ≡ true → list_all is_plain words ≡ true
    → rows_after c [] words ≡ finished c (fold (next_place c) (nothing_held, 1) words).0
rows_plain c words single plain = ap (λ (w : Walk). finished c w.held) (walk_plain c words nothing_held 1 single plain)

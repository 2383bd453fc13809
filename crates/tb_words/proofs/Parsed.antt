-- What clap makes of the words of each command.
use Rattle.std.proofs.Common.{◌≡◌, ◌∙◌, ap, refl, ℕ, Bool, true, false, ◌&&◌, List, [], ◌∷◌, Some, zero, suc, fold, map, length, inl, inr, arith}
use Rattle.std.specs.Prelude.{codes}
use Rattle.std.specs.List.{list_all, slice_index_or}
use Rattle.clap.specs.Simple.{Shape, built, names_of, new_shape}
use Rattle.clap.specs.Takes.{level_passes, takes, walk_passes}
use Rattle.clap.specs.Walk.{Row, Text, finished, nothing_held, rows_after, walked}
use Rattle.clap.specs.Words.{subcommand_of}
use Rattle.tb_words.specs.Positions.{positions_named, program, value_at}
use Rattle.tb_words.specs.Words.{AreCommand, is_plain}
use Rattle.tb_words.proofs.Plain.{is_single, level_plain, next_place, positions_pass, rows_plain}

-- the commands as they are built
abbrev leaf : ℕ → Shape
leaf n = slice_index_or (built program).subs n (new_shape [])

-- the matches of a command's words
abbrev rows_of_leaf : ℕ → List Text → List Row
rows_of_leaf n words = finished (leaf n).rules (fold (next_place (leaf n).rules) (nothing_held, 1) words).0

-- what the words of a command come to: clap takes them, and finds each at its position
pub record IsParsed (words : List Text) : Type 0 where
  pub taken : takes program words ≡ true
  pub name : Text
  pub rows : List Row
  pub found : subcommand_of program words ≡ Some (name, rows)
  pub given : name ∷ map (value_at rows) (positions_named name) ≡ words

abbrev above : List Text → Bool
above words = level_passes (built program).top (names_of (built program)) nothing_held words true

-- plain words behind a name, where the command of that name is the one at a place
behind : (n : ℕ) (name : Text) (values : List Text) → list_all is_plain values ≡ true → list_all is_single (leaf n).rules ≡ true
    → takes program (name ∷ values) ≡ (level_passes (leaf n) [] nothing_held values false && above (name ∷ values))
    → (positions_pass (leaf n) values && above (name ∷ values)) ≡ true
    → subcommand_of program (name ∷ values) ≡ Some (name, rows_after (leaf n).rules [] values)
    → name ∷ map (value_at (rows_of_leaf n values)) (positions_named name) ≡ name ∷ values → IsParsed (name ∷ values)
behind n name values plain single level passes sub given =
    record {
      taken = level ∙ ap (λ t. t && above (name ∷ values)) (level_plain (leaf n) values single plain) ∙ passes;
      name = name;
      rows = rows_of_leaf n values;
      found = sub ∙ ap (λ (rows : List Row). Some (name, rows)) (rows_plain (leaf n).rules values single plain);
      given = given;
    }

-- what is true of any so many words, named one by one
abbrev Each : ℕ → (List Text → Type 0) → Type 0
Each zero P = P []
Each (suc n) P = (word : Text) → Each n (λ words. P (word ∷ words))

-- is true of a list of so many
one_by_one : (n : ℕ) (P : List Text → Type 0) → Each n P → (words : List Text) → length words ≡ n → P words
one_by_one zero P each [] len = each
one_by_one zero P each (word ∷ words) len = absurd (omega (arith, len))
one_by_one (suc n) P each [] len = absurd (omega (arith, len))
one_by_one (suc n) P each (word ∷ words) len = one_by_one n (λ ws. P (word ∷ ws)) (each word) words (omega (arith, len))

-- the words behind a name are a command's
abbrev Behind : Text → List Text → Type 0
Behind name values = list_all is_plain values ≡ true → IsParsed (name ∷ values)

script_words : (values : List Text) → length values ≡ 6 → Behind (codes "script") values
unfolding walked walk_passes
script_words = one_by_one 6 (Behind (codes "script")) (λ a b c d e f plain. behind 0 (codes "script") (a ∷ b ∷ c ∷ d ∷ e ∷ f ∷ []) plain refl refl refl refl refl)

lanes_words : (values : List Text) → length values ≡ 6 → Behind (codes "lanes") values
unfolding walked walk_passes
lanes_words = one_by_one 6 (Behind (codes "lanes")) (λ a b c d e f plain. behind 1 (codes "lanes") (a ∷ b ∷ c ∷ d ∷ e ∷ f ∷ []) plain refl refl refl refl refl)

keep_words : (values : List Text) → length values ≡ 7 → Behind (codes "keep") values
unfolding walked walk_passes
keep_words = one_by_one 7 (Behind (codes "keep")) (λ a b c d e f g plain. behind 2 (codes "keep") (a ∷ b ∷ c ∷ d ∷ e ∷ f ∷ g ∷ []) plain refl refl refl refl refl)

follow_words : (values : List Text) → length values ≡ 6 → Behind (codes "follow") values
unfolding walked walk_passes
follow_words = one_by_one 6 (Behind (codes "follow")) (λ a b c d e f plain. behind 3 (codes "follow") (a ∷ b ∷ c ∷ d ∷ e ∷ f ∷ []) plain refl refl refl refl refl)

units_words : (values : List Text) → length values ≡ 8 → Behind (codes "units") values
unfolding walked walk_passes
units_words = one_by_one 8 (Behind (codes "units")) (λ a b c d e f g h plain. behind 4 (codes "units") (a ∷ b ∷ c ∷ d ∷ e ∷ f ∷ g ∷ h ∷ []) plain refl refl refl refl refl)

host_words : (values : List Text) → length values ≡ 11 → Behind (codes "host") values
unfolding walked walk_passes
host_words = one_by_one 11 (Behind (codes "host")) (λ a b c d e f g h i j k plain. behind 5 (codes "host") (a ∷ b ∷ c ∷ d ∷ e ∷ f ∷ g ∷ h ∷ i ∷ j ∷ k ∷ []) plain refl refl refl refl refl)

mirror_words : (values : List Text) → length values ≡ 10 → Behind (codes "mirror") values
unfolding walked walk_passes
mirror_words = one_by_one 10 (Behind (codes "mirror")) (λ a b c d e f g h i j plain. behind 6 (codes "mirror") (a ∷ b ∷ c ∷ d ∷ e ∷ f ∷ g ∷ h ∷ i ∷ j ∷ []) plain refl refl refl refl refl)

serve_words : (values : List Text) → length values ≡ 8 → Behind (codes "serve") values
unfolding walked walk_passes
serve_words = one_by_one 8 (Behind (codes "serve")) (λ a b c d e f g h plain. behind 7 (codes "serve") (a ∷ b ∷ c ∷ d ∷ e ∷ f ∷ g ∷ h ∷ []) plain refl refl refl refl refl)

gen_words : (values : List Text) → length values ≡ 2 → Behind (codes "gen") values
unfolding walked walk_passes
gen_words = one_by_one 2 (Behind (codes "gen")) (λ a b plain. behind 8 (codes "gen") (a ∷ b ∷ []) plain refl refl refl refl refl)

pub parsed : (words : List Text) → AreCommand words → IsParsed words
parsed words (inl (values, is, len, plain)) = rw is (script_words values len plain)
parsed words (inr (inl (values, is, len, plain))) = rw is (lanes_words values len plain)
parsed words (inr (inr (inl (values, is, len, plain)))) = rw is (keep_words values len plain)
parsed words (inr (inr (inr (inl (values, is, len, plain))))) = rw is (follow_words values len plain)
parsed words (inr (inr (inr (inr (inl (values, is, len, plain)))))) = rw is (units_words values len plain)
parsed words (inr (inr (inr (inr (inr (inl (values, is, len, plain))))))) = rw is (host_words values len plain)
parsed words (inr (inr (inr (inr (inr (inr (inl (values, is, len, plain)))))))) = rw is (mirror_words values len plain)
parsed words (inr (inr (inr (inr (inr (inr (inr (inl (values, is, len, plain))))))))) = rw is (serve_words values len plain)
parsed words (inr (inr (inr (inr (inr (inr (inr (inr (values, is, len, plain))))))))) = rw is (gen_words values len plain)

-- What clap told of the words of a command.
use Rattle.std.proofs.Common.{◌≡◌, ◌∙◌, ap, sym, refl, true, List, [], ◌∷◌, map, Option, Some, None, Bor, Result}
use Rattle.std.specs.Prelude.{IfErr, IfOk, option_map}
use Rattle.std.proofs.lemmas.Result.{IfErr-weaker, IfOk-weaker}
use Rattle.clap.specs.Words.{App, HasMatchesOf, Row, Text, kind_of, subcommand_name_of, subcommand_of, subcommand_rows_of, takes}
use Rattle.clap.specs.declared.error.Error.{Error}
use Rattle.clap.specs.declared.error.kind.ErrorKind.TheVariants.{OutOfMemory}
use Rattle.clap.specs.declared.parser.matches.ArgMatches.{ArgMatches}
use Rattle.tb_words.specs.Positions.{positions_named, program, value_at, words_found}
use Rattle.tb_words.specs.Words.{AreCommand}
use Rattle.tb_words.proofs.Parsed.{parsed}

-- the program takes the words, so clap fails for want of memory alone
pub passes_as : (r : Result ArgMatches Error) (a : App) (words : List Text) → a ≡ program → AreCommand words
    → IfErr r (λ e. takes a words ≡ true → kind_of e ≡ OutOfMemory) → IfErr r (λ e. kind_of e ≡ OutOfMemory)
passes_as r a words is are told =
    let taken : takes a words ≡ true = ap (λ x. takes x words) is ∙ (parsed words are).taken in
    IfErr-weaker r (λ e. takes a words ≡ true → kind_of e ≡ OutOfMemory) (λ e. kind_of e ≡ OutOfMemory) (λ e fails. fails taken) told

-- its matches are those of a simple command
pub rows_are : (r : Result ArgMatches Error) (a : App) (words : List Text) → a ≡ program → IfOk r (HasMatchesOf a words)
    → IfOk r (λ m. subcommand_rows_of m ≡ subcommand_of program words)
rows_are r a words is told =
    IfOk-weaker r (HasMatchesOf program words) (λ m. subcommand_rows_of m ≡ subcommand_of program words) (λ m over. (over refl).1)
    (rw is at told)

-- the words that were found are the words
pub found_are : (words : List Text) → AreCommand words → words_found (subcommand_of program words) ≡ words
found_are words are = let p = parsed words are in ap words_found p.found ∙ p.given

twice : {A B C : Type 0} (f : B → C) (g : A → B) (o : Option A) → option_map f (option_map g o) ≡ option_map (λ x. f (g x)) o
twice f g None = refl
twice f g (Some x) = refl

map_now : (f : Text → Text) (ps : List (Bor Text)) → map (λ s. f s.now) ps ≡ map f (map (λ s. s.now) ps)
map_now f [] = refl
map_now f (p ∷ ps) = ap (λ ys. f p.now ∷ ys) (map_now f ps)

found_in : (sub : Option (Text × List Row)) (name : Text) (rows : List Row) (ps : List (Bor Text))
    → Some name ≡ option_map (λ p. p.0) sub → Some rows ≡ option_map (λ p. p.1) sub → map (λ s. s.now) ps ≡ positions_named name
    → name ∷ map (λ s. value_at rows s.now) ps ≡ words_found sub
found_in None name rows ps named rowed places = cc
found_in (Some (its, values)) name rows ps named rowed places =
    let same_name : name ≡ its = cc in
    let same_rows : rows ≡ values = cc in
    ap (λ vs. name ∷ vs) (map_now (value_at rows) ps ∙ ap (map (value_at rows)) places) ∙ rw (same_name, same_rows) refl

-- the name of the subcommand and what stands at its positions are the words that were found
pub found_by : (m : ArgMatches) (name : Text) (rows : List Row) (ps : List (Bor Text)) → Some name ≡ subcommand_name_of m
    → Some rows ≡ option_map (λ p. p.1) (subcommand_rows_of m) → map (λ s. s.now) ps ≡ positions_named name
    → name ∷ map (λ s. value_at rows s.now) ps ≡ words_found (subcommand_rows_of m)
found_by m name rows ps named rowed places =
    let pair : option_map (λ (p : Text × List Row). p.0) (subcommand_rows_of m) ≡ subcommand_name_of m = twice (λ p. p.0) _ _ in
    found_in (subcommand_rows_of m) name rows ps (named ∙ sym pair) rowed places

-- a call's words, told by an equation
pub ok_as : {W E : Type 0} (r : Result W E) (words : W → List Text) (a b : List Text) → IfOk r (λ w. words w ≡ a) → a ≡ b
    → IfOk r (λ w. words w ≡ b)
ok_as r words a b told same = IfOk-weaker r (λ w. words w ≡ a) (λ w. words w ≡ b) (λ w is. is ∙ same) told

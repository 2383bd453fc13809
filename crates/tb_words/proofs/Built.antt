-- How the program is built for clap, and what is read from its matches.
use Rattle.std.proofs.Common.{◌≡◌, ◌∙◌, ap, ap₂, sym, refl, ℕ, ◌+◌, ◌<◌, ◌++◌, true, List, [], ◌∷◌, Option, Some, None, map, take, length, get_or, append_assoc, fold, Bor, Result}
use Rattle.std.specs.Prelude.{IfOk, option_map, unwrap_or}
use Rattle.std.specs.List.{list_all}
use Rattle.std.proofs.lemmas.Result.{IfOk-weaker}
use Rattle.std.proofs.lemmas.List.{map-append, take_more}
use Rattle.std.proofs.lemmas.List.Sums.{fold-append}
use Rattle.clap.specs.Words.{AddsInTurn, AddsSubcommand, App, Text, app_of, new_app, with_subcommand}
use Rattle.clap.specs.declared.builder.command.Command.{Command}
use Rattle.tb_words.specs.Positions.{bare_program, command_apps, program, with_command, with_position}
use Rattle.tb_words.proofs.Plain.{both, is_false}

-- a subcommand of plain settings that is added
pub added : (old sub new : Command) (a s : App) → AddsSubcommand old sub new → app_of old ≡ a → app_of sub ≡ s → s.top.is_plain ≡ true
    → app_of new ≡ with_subcommand a s.top
added old sub new a s adds one two plain =
    let set : (app_of sub).top.is_plain ≡ true = ap (λ (x : App). x.top.is_plain) two ∙ plain in
    adds.shape (is_false _ (both _ _ (both _ _ (both _ _ set).1).1).0) ∙ ap₂ with_subcommand one (ap (λ (x : App). x.top) two)

-- the commands that are added in turn, each of plain settings
pub all_added : (apps : List App) (subs : List Command) (old new : Command) → AddsInTurn AddsSubcommand old subs new
    → map app_of subs ≡ apps → list_all (λ a. a.top.is_plain) apps ≡ true → app_of new ≡ fold with_command (app_of old) apps
all_added [] [] old new is same plain = ap app_of (sym is)
all_added [] (sub ∷ subs) old new is same plain = cc
all_added (a ∷ apps) [] old new is same plain = cc
all_added (a ∷ apps) (sub ∷ subs) old new (m, first, rest) same plain =
    let (one, others) = both a.top.is_plain (list_all (λ (x : App). x.top.is_plain) apps) plain in
    let its : app_of sub ≡ a = cc in
    let more : map app_of subs ≡ apps = cc in
    all_added apps subs m new rest more others
    ∙ ap (λ b. fold with_command b apps) (added old sub m (app_of old) a first refl its one)

-- which makes the program of all commands
pub program_of : {E : Type 0} (r : Result Command E) (bare : Command) (subs : List Command)
    → IfOk r (λ c. AddsInTurn AddsSubcommand bare subs c) → app_of bare ≡ bare_program → map app_of subs ≡ command_apps
    → IfOk r (λ c. app_of c ≡ program)
program_of r bare subs turns one same =
    IfOk-weaker r (λ c. AddsInTurn AddsSubcommand bare subs c) (λ c. app_of c ≡ program)
    (λ c adds. all_added command_apps subs bare c adds same refl ∙ ap (λ a. fold with_command a command_apps) one) turns

-- one list after another
pub map_twice : {A B C : Type 0} (f : B → C) (g : A → B) (xs : List A) → map (λ x. f (g x)) xs ≡ map f (map g xs)
map_twice f g [] = refl
map_twice f g (x ∷ xs) = ap (λ ys. f (g x) ∷ ys) (map_twice f g xs)

-- one more position
pub one_more_place : (places : List (Bor Text)) (i : ℕ) (d : Bor Text) (start old new : App) → i < length places
    → old ≡ fold with_position start (map (λ s. s.now) (take i places)) → new ≡ with_position old (get_or places i d).now
    → new ≡ fold with_position start (map (λ s. s.now) (take (i + 1) places))
one_more_place places i d start old new below so_far is =
    let now : Bor Text → Text = λ s. s.now in
    let name = now (get_or places i d) in
    let names : map now (take (i + 1) places) ≡ map now (take i places) ++ name ∷ [] =
    ap (map now) (take_more places i d below) ∙ map-append now (take i places) (get_or places i d ∷ []) in
    is ∙ ap (λ a. with_position a name) so_far ∙ sym (fold-append with_position start (map now (take i places)) (name ∷ []))
    ∙ ap (fold with_position start) (sym names)

-- one more value, after those in front
pub one_more_value : {S X Y : Type 0} (text : S → Y) (g : X → Y) (front : List Y) (values new : List S) (v : S) (all : List X) (i : ℕ) (d : X)
    → new ≡ values ++ v ∷ [] → i < length all → map text values ≡ front ++ map g (take i all) → text v ≡ g (get_or all i d)
    → map text new ≡ front ++ map g (take (i + 1) all)
one_more_value text g front values new v all i d is below so_far here =
    ap (map text) is ∙ map-append text values (v ∷ []) ∙ ap₂ (λ xs ys. xs ++ ys) so_far (ap (λ t. t ∷ []) here)
    ∙ append_assoc front (map g (take i all)) (g (get_or all i d) ∷ [])
    ∙ ap (λ t. front ++ t) (sym (map-append g (take i all) (get_or all i d ∷ [])) ∙ ap (map g) (sym (take_more all i d below)))

-- the text of a value, or none
pub value_or_none : (o : Option (Bor Text)) (d : Bor Text) (t : Option Text) → option_map (λ s. s.now) o ≡ t → d.now ≡ []
    → (unwrap_or o d).now ≡ unwrap_or t []
value_or_none (Some s) d t is none = ap (λ (x : Option Text). unwrap_or x []) is
value_or_none None d t is none = none ∙ ap (λ (x : Option Text). unwrap_or x []) is

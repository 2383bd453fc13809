-- Words that are a command's are those that `clap` takes, as they are handed on.
use Rattle.std.proofs.Common.{◌≡◌, ◌^◌, ◌∙◌, ap, ap₂, sym, subst, refl, ℕ, zero, suc, ◌+◌, ◌==◌, ◌&&◌, ◌++◌, Bool, true, false, not, List, [], ◌∷◌, length, map, Option, Some, None, inl, inr, arith, eqb-true, leb-true, ne_eqb}
use Rattle.std.specs.Prelude.{bytes_eq, codes, get_or, if◌then◌else◌, is_some, nat_le, nat_lt, option_and_then, option_map}
use Rattle.std.specs.Char.{is_ascii_digit}
use Rattle.std.specs.List.{list_all}
use Rattle.std.proofs.lemmas.List.{length-append, length-map}
use Rattle.std.proofs.lemmas.Slice.Eq.{bytes_eq-Decides}
use Rattle.tb_base.specs.Numbers.{number_of, value_after}
use Rattle.tb_command.specs.Commands.{command_of, gen_in, inputs_in, lines_in, owner_in, task_in, unit_files_in, units_in}
use Rattle.tb_command.specs.Forms.{FormValue, end_place, form_in, forms, lines_place, owner_place}
use Rattle.tb_command.specs.Names.{file_named, file_or_dash, is_dash, is_file_name, word_at}
use Rattle.tb_command.specs.Numbers.{number_within}
use Rattle.tb_command.specs.Populations.{Population}
use Rattle.tb_command.specs.Positions.{dwellings_positions, gen_positions, inputs_positions, lines_positions, owner_positions, positions_of}
use Rattle.tb_command.specs.declared.command.Command.{Command}
use Rattle.tb_command.specs.declared.command.Inputs.{Inputs}
use Rattle.tb_command.specs.declared.command.Lines.{Lines}
use Rattle.tb_command.specs.declared.command.Owner.{Owner}
use Rattle.tb_command.specs.declared.command.Task.{Task}
use Rattle.tb_command.specs.declared.command.UnitFiles.{UnitFiles}
use Rattle.tb_command.specs.declared.forms.Dwellings.{Dwellings}
use Rattle.tb_command.specs.declared.forms.Dwellings.TheVariants as dwellings
use Rattle.tb_command.specs.declared.forms.LinesFrom.{LinesFrom}
use Rattle.tb_command.specs.declared.forms.LinesFrom.TheVariants as lines_from
use Rattle.tb_command.specs.declared.forms.OwnedBy.{OwnedBy}
use Rattle.tb_command.specs.declared.forms.OwnedBy.TheVariants as owned_by
use Rattle.tb_command.specs.ServicePorts.{most_port, most_workers}
use Rattle.tb_words.specs.Words.{AreCommand, AreOf, AreOfOne, IsCommand, handed, handed_on, is_plain}
use Rattle.tb_words.proofs.Plain.{both}

if_some : {A : Type 0} (c : Bool) (o : Option A) (x : A) → (if c then o else None) ≡ Some x → (c ≡ true) × (o ≡ Some x)
if_some true o x h = (refl, h)
if_some false o x h = cc

then_some : {A B : Type 0} (f : A → Option B) (o : Option A) (y : B) → option_and_then f o ≡ Some y → (x : A) × (o ≡ Some x) × (f x ≡ Some y)
then_some f (Some x) y h = (x, refl, h)
then_some f None y h = cc

map_some : {A B : Type 0} (f : A → B) (o : Option A) (y : B) → option_map f o ≡ Some y → (x : A) × (o ≡ Some x)
map_some f (Some x) y h = (x, refl)
map_some f None y h = cc

all_true : (a b : Bool) → a ≡ true → b ≡ true → (a && b) ≡ true
all_true true b h k = k
all_true false b h k = cc

-- ---- one word

-- a word passes: as it is handed on it can't be taken for an option
abbrev Passes : List ℕ → Type 0
Passes word = is_plain (handed word) ≡ true

passes_plain : (word : List ℕ) → is_plain word ≡ true → Passes word
passes_plain word plain = go (is_dash word)
  where
    go : (b : Bool) → is_plain (if b then codes "none" else word) ≡ true
    go true = refl
    go false = plain

passes_dash : (word : List ℕ) → is_dash word ≡ true → Passes word
passes_dash word is = rw is refl

plain_name : (word : List ℕ) → is_file_name word ≡ true → is_plain word ≡ true
plain_name [] h = cc
plain_name (x ∷ word) h = h

passes_file : (word name : List ℕ) → file_named word ≡ Some name → Passes word
passes_file word name h = passes_plain word (plain_name word (if_some (is_file_name word) (Some word) name h).0)

passes_file_or_dash : (word : List ℕ) (o : Option (List ℕ)) → file_or_dash word ≡ Some o → Passes word
passes_file_or_dash word o h = go (is_dash word) refl
  where
    go : (b : Bool) → is_dash word ≡ b → Passes word
    go true is = passes_dash word is
    go false is =
        let file : (if is_file_name word then Some (Some word) else None) ≡ Some o = rw is at h in
        passes_plain word (plain_name word (if_some (is_file_name word) (Some (Some word)) o file).0)

digit_plain : (x : ℕ) → is_ascii_digit x ≡ true → not (x == 45) ≡ true
digit_plain x digit =
    let least = leb-true 48 x (both (nat_le 48 x) (nat_le x 57) digit).0 in
    ap not (ne_eqb x 45 (λ same. omega (arith, least, same)))

plain_number : (word : List ℕ) (n : ℕ) → number_of word ≡ Some n → is_plain word ≡ true
plain_number [] n h = cc
plain_number (x ∷ word) n h =
    let text = x ∷ word in
    let (test, value) = if_some (nat_le 1 (length text) && nat_le (length text) 10 && list_all is_ascii_digit text
    && nat_lt (value_after 0 text) (2 ^ 32)) (Some (value_after 0 text)) n h in
    let first = both (nat_le 1 (length text) && nat_le (length text) 10 && list_all is_ascii_digit text) (nat_lt (value_after 0 text) (2 ^ 32)) test in
    let digits = both (nat_le 1 (length text) && nat_le (length text) 10) (list_all is_ascii_digit text) first.0 in
    digit_plain x (both (is_ascii_digit x) (list_all is_ascii_digit word) digits.1).0

passes_number : (word : List ℕ) (n : ℕ) → number_of word ≡ Some n → Passes word
passes_number word n h = passes_plain word (plain_number word n h)

passes_within : (least most n : ℕ) (word : List ℕ) → number_within least most word ≡ Some n → Passes word
passes_within least most n word h =
    let (m, read, inside) = then_some (λ k. if nat_le least k && nat_le k most then Some k else None) (number_of word) n h in
    passes_number word m read

-- ---- groups of words

-- so many words pass, from a place on
abbrev PassFrom : ℕ → ℕ → List (List ℕ) → Type 0
PassFrom zero i words = Unit {0}
PassFrom (suc n) i words = Passes (word_at words i) × PassFrom n (suc i) words

pass_both : (n m i : ℕ) (words : List (List ℕ)) → PassFrom n i words → PassFrom m (n + i) words → PassFrom (n + m) i words
pass_both zero m i words first second =
    let same : 0 + i ≡ i = omega arith in
    let all : 0 + m ≡ m = omega arith in
    subst (λ n. PassFrom n i words) (sym all) (subst (λ j. PassFrom m j words) same second)
pass_both (suc n) m i words (one, first) second =
    let same : suc n + i ≡ n + suc i = omega arith in
    let more : suc n + m ≡ suc (n + m) = omega arith in
    subst (λ k. PassFrom k i words) (sym more) (one, pass_both n m (suc i) words first (subst (λ j. PassFrom m j words) same second))

behind_one : (n i : ℕ) (word : List ℕ) (words : List (List ℕ)) → PassFrom n (suc i) (word ∷ words) → PassFrom n i words
behind_one zero i word words pass = tt
behind_one (suc n) i word words (one, rest) = (one, behind_one n (suc i) word words rest)

-- all of a list of so many
all_pass : (n : ℕ) (words : List (List ℕ)) → length words ≡ n → PassFrom n 0 words → list_all is_plain (map handed words) ≡ true
all_pass zero [] len pass = refl
all_pass zero (word ∷ words) len pass = absurd (omega (arith, len))
all_pass (suc n) [] len pass = absurd (omega (arith, len))
all_pass (suc n) (word ∷ words) len (one, rest) =
    all_true _ _ one (all_pass n words (omega (arith, len)) (behind_one n 0 word words rest))

inputs_pass : (words : List (List ℕ)) (inputs : Inputs) → inputs_in words ≡ Some inputs → PassFrom 5 1 words
inputs_pass words inputs h =
    let (classes, a, h1) = then_some _ (file_named (word_at words 1)) inputs h in
    let (recodes, b, h2) = then_some _ (file_or_dash (word_at words 2)) inputs h1 in
    let (ptable, c, h3) = then_some _ (file_named (word_at words 3)) inputs h2 in
    let (people, d, h4) = then_some _ (file_named (word_at words 4)) inputs h3 in
    let (threshold, e) = map_some _ (number_within 0 _ (word_at words 5)) inputs h4 in
    (passes_file (word_at words 1) classes a, (passes_file_or_dash (word_at words 2) recodes b, (passes_file (word_at words 3) ptable c, (passes_file (word_at words 4) people d, (passes_within 0 Rattle.tb_base.specs.declared.limits.TheConstants.MOST_THRESHOLD threshold (word_at words 5) e, tt)))))

unit_files_pass : (words : List (List ℕ)) (files : UnitFiles) → unit_files_in words ≡ Some files → PassFrom 2 6 words
unit_files_pass words files h =
    let (dwellings, a, h1) = then_some _ (file_named (word_at words 6)) files h in
    let (links, b) = map_some _ (file_named (word_at words 7)) files h1 in
    (passes_file (word_at words 6) dwellings a, (passes_file (word_at words 7) links b, tt))

units_pass : (d : Dwellings) (words : List (List ℕ)) (units : Option UnitFiles) → units_in d words ≡ Some units
    → PassFrom (length (dwellings_positions d)) 6 words
units_pass dwellings.Never words units h = tt
units_pass dwellings.Always words units h =
    let (files, named) = map_some Some (unit_files_in words) units h in
    unit_files_pass words files named
units_pass dwellings.OrDashes words units h = go (is_dash (word_at words 6) && is_dash (word_at words 7)) refl
  where
    go : (b : Bool) → (is_dash (word_at words 6) && is_dash (word_at words 7)) ≡ b → PassFrom 2 6 words
    go true is =
        let (first, second) = both (is_dash (word_at words 6)) (is_dash (word_at words 7)) is in
        (passes_dash (word_at words 6) first, (passes_dash (word_at words 7) second, tt))
    go false is =
        let some : option_map Some (unit_files_in words) ≡ Some units = rw is at h in
        let (files, named) = map_some Some (unit_files_in words) units some in
        unit_files_pass words files named

owner_pass : (o : OwnedBy) (words : List (List ℕ)) (i : ℕ) (owner : Owner) → owner_in o (word_at words i) ≡ Some owner
    → PassFrom (length (owner_positions o)) i words
owner_pass owned_by.Custodian words i owner h = tt
owner_pass owned_by.Leader words i owner h = tt
owner_pass owned_by.Journal words i owner h =
    let (name, named) = map_some _ (file_named (word_at words i)) owner h in
    (passes_file (word_at words i) name named, tt)

lines_pass : (l : LinesFrom) (words : List (List ℕ)) (i : ℕ) (lines : Lines) → lines_in l words i ≡ Some lines
    → PassFrom (length (lines_positions l)) i words
lines_pass lines_from.Script words i lines h =
    let (name, named) = map_some _ (file_named (word_at words i)) lines h in (passes_file (word_at words i) name named, tt)
lines_pass lines_from.Lanes words i lines h =
    let (name, named) = map_some _ (file_named (word_at words i)) lines h in (passes_file (word_at words i) name named, tt)
lines_pass (lines_from.Ports kind) words i lines h =
    let (service, some) = map_some _ _ lines h in
    let (port, a, h1) = then_some _ (number_within 1 _ (word_at words i)) service some in
    let (workers, b, h2) = then_some _ (number_within 1 _ (word_at words (i + 1))) service h1 in
    let (sessions, c) = map_some _ (number_within 1 _ (word_at words (i + 2))) service h2 in
    let second : i + 1 ≡ suc i = omega arith in
    let third : i + 2 ≡ suc (suc i) = omega arith in (
      passes_within 1 (most_port kind) port (word_at words i) a,
      (
        subst (λ j. Passes (word_at words j)) second (passes_within 1 (most_workers kind) workers (word_at words (i + 1)) b),
        (subst (λ j. Passes (word_at words j)) third (passes_within 1 1000000 sessions (word_at words (i + 2)) c), tt),
      ),
    )

-- ---- a row

-- its places are where its positions are
owner_there : (f : FormValue) → owner_place f ≡ 6 + length (dwellings_positions f.dwellings)
owner_there f = go f.dwellings refl
  where
    go : (d : Dwellings) → f.dwellings ≡ d → owner_place f ≡ 6 + length (dwellings_positions f.dwellings)
    go dwellings.Never is = rw is refl
    go dwellings.Always is = rw is refl
    go dwellings.OrDashes is = rw is refl

lines_there : (f : FormValue) → lines_place f ≡ owner_place f + length (owner_positions f.owner)
lines_there f = go f.owner refl
  where
    go : (o : OwnedBy) → f.owner ≡ o → lines_place f ≡ owner_place f + length (owner_positions f.owner)
    go owned_by.Custodian is = rw is (omega arith)
    go owned_by.Leader is = rw is (omega arith)
    go owned_by.Journal is = rw is refl

end_there : (f : FormValue) → end_place f ≡ lines_place f + length (lines_positions f.lines)
end_there f = go f.lines refl
  where
    go : (l : LinesFrom) → f.lines ≡ l → end_place f ≡ lines_place f + length (lines_positions f.lines)
    go lines_from.Script is = rw is refl
    go lines_from.Lanes is = rw is refl
    go (lines_from.Ports kind) is = rw is refl

-- so many positions it has, group by group
count_of : (f : FormValue) → length (positions_of f)
    ≡ 5 + (length (dwellings_positions f.dwellings) + (length (owner_positions f.owner) + length (lines_positions f.lines)))
count_of f =
    go f.dwellings f.owner f.lines
  where
    go : (d : Dwellings) (o : OwnedBy) (l : LinesFrom)
        → length (inputs_positions ++ dwellings_positions d ++ owner_positions o ++ lines_positions l)
        ≡ 5 + (length (dwellings_positions d) + (length (owner_positions o) + length (lines_positions l)))
    go d o l =
        let first = length-append (dwellings_positions d ++ owner_positions o) (lines_positions l) in
        let second = length-append (dwellings_positions d) (owner_positions o) in
        omega (arith, first, second)

-- the words of a row pass
row_pass : (f : FormValue) (words : List (List ℕ)) (task : Task) → task_in f words ≡ Some task
    → (length words ≡ end_place f) × PassFrom (length (positions_of f)) 1 words
row_pass f words task h =
    let (count, some) = if_some (length words == end_place f) _ task h in
    let (inputs, a, h1) = then_some _ (inputs_in words) task some in
    let (units, b, h2) = then_some _ (units_in f.dwellings words) task h1 in
    let (owner, c, h3) = then_some _ (owner_in f.owner (word_at words (owner_place f))) task h2 in
    let (lines, d) = map_some _ (lines_in f.lines words (lines_place f)) task h3 in
    let du = length (dwellings_positions f.dwellings) in
    let ow = length (owner_positions f.owner) in
    let li = length (lines_positions f.lines) in
    let its_owner : owner_place f ≡ du + 6 = omega (arith, owner_there f) in
    let its_lines : lines_place f ≡ ow + (du + 6) = omega (arith, lines_there f, owner_there f) in
    let at_owner : PassFrom ow (du + 6) words =
    subst (λ j. PassFrom ow j words) its_owner (owner_pass f.owner words (owner_place f) owner c) in
    let at_lines : PassFrom li (ow + (du + 6)) words =
    subst (λ j. PassFrom li j words) its_lines (lines_pass f.lines words (lines_place f) lines d) in
    let tail = pass_both ow li (du + 6) words at_owner at_lines in
    let behind = pass_both du (ow + li) 6 words (units_pass f.dwellings words units b) tail in
    let all = pass_both 5 (du + (ow + li)) 1 words (inputs_pass words inputs a) behind in
    (eqb-true (length words) (end_place f) count, subst (λ n. PassFrom n 1 words) (sym (count_of f)) all)

-- a plain word is handed on as it is
plain_same : (word : List ℕ) → is_plain word ≡ true → handed word ≡ word
plain_same word plain = go (is_dash word) refl
  where
    go : (b : Bool) → is_dash word ≡ b → (if b then codes "none" else word) ≡ word
    go false is = refl
    go true is =
        let same : word ≡ codes "-" = (bytes_eq-Decides word (codes "-")).0 is in
        let bad : is_plain (codes "-") ≡ true = rw same at plain in cc

-- a name and so many words that pass are those of a command of that name
of_name : (name : List ℕ) (n : ℕ) (words : List (List ℕ)) → is_plain name ≡ true → word_at words 0 ≡ name → length words ≡ suc n
    → PassFrom n 1 words → AreOf name n (handed_on words)
of_name name n [] plain first len pass = absurd (omega (arith, len))
of_name name n (word ∷ words) plain first len pass =
    let count : length words ≡ n = omega (arith, len) in (
      map handed words,
      ap₂ (λ x xs. x ∷ xs) (ap handed first ∙ plain_same name plain) refl,
      length-map words handed ∙ count,
      all_pass n words count (behind_one n 0 word words pass),
    )

-- the row that is found has the name, which is plain in the table, and the words are those of one of
-- the rows
of_row : (rows : List FormValue) (words : List (List ℕ)) (name : List ℕ) (f : FormValue) → form_in rows name ≡ Some f
    → list_all (λ r. is_plain r.name) rows ≡ true → word_at words 0 ≡ name → length words ≡ suc (length (positions_of f))
    → PassFrom (length (positions_of f)) 1 words → AreOfOne rows (handed_on words)
of_row [] words name f found plain first len pass = cc
of_row (r ∷ rows) words name f found plain first len pass =
    go (bytes_eq r.name name) refl
    (λ later. of_row rows words name f later
    (both (is_plain r.name) (list_all (λ (x : FormValue). is_plain x.name) rows) plain).1 first len pass)
  where
    go : (b : Bool) → bytes_eq r.name name ≡ b → (form_in rows name ≡ Some f → AreOfOne rows (handed_on words))
        → AreOfOne (r ∷ rows) (handed_on words)
    go true is others =
        let here : Some r ≡ Some f = rw is at found in
        let same : r ≡ f = cc in
        let its : r.name ≡ name = (bytes_eq-Decides r.name name).0 is in
        inl (of_name r.name (length (positions_of r)) words (both (is_plain r.name) (list_all (λ (x : FormValue). is_plain x.name) rows) plain).0
        (first ∙ sym its) (rw same len) (rw same pass))
    go false is others = inr (others (rw is at found))

-- the words of `gen`
gen_pass : (words : List (List ℕ)) (population : Population) → gen_in words ≡ Some population → (length words ≡ 3) × PassFrom 2 1 words
gen_pass words population h =
    let (count, some) = if_some (length words == 3) _ population h in
    let (n, a, h1) = then_some _ (number_within 1 _ (word_at words 1)) population some in
    let (start, b) = map_some _ (number_of (word_at words 2)) population h1 in
    (eqb-true (length words) 3 count, (passes_within 1 Rattle.tb_gen.specs.declared.limits.TheConstants.MOST_GENERATED n (word_at words 1) a, (passes_number (word_at words 2) start b, tt)))

of_gen : (rows : List FormValue) (words : List (List ℕ)) → AreOf (codes "gen") 2 words → AreOfOne rows words
of_gen [] words are = are
of_gen (r ∷ rows) words are = inr (of_gen rows words are)

tested_one : (words : List (List ℕ)) (command : Command) → command_of words ≡ Some command → AreCommand (handed_on words)
tested_one words command h = go (bytes_eq (word_at words 0) (codes "gen")) refl
  where
    go : (b : Bool) → bytes_eq (word_at words 0) (codes "gen") ≡ b → AreCommand (handed_on words)
    go true is =
        let (population, some) = map_some _ (gen_in words) command (rw is at h) in
        let (len, pass) = gen_pass words population some in
        of_gen forms (handed_on words) (of_name (codes "gen") 2 words refl ((bytes_eq-Decides (word_at words 0) (codes "gen")).0 is) len pass)
    go false is =
        let (f, found, some) = then_some _ (form_in forms (word_at words 0)) command (rw is at h) in
        let (task, its) = map_some _ (task_in f words) command some in
        let (len, pass) = row_pass f words task its in
        let count : length words ≡ suc (length (positions_of f)) =
        omega (arith, len, end_there f, lines_there f, owner_there f, count_of f) in
        of_row forms words (word_at words 0) f found refl refl count pass

-- words that are a command's
pub tested : (words : List (List ℕ)) → IsCommand words → AreCommand (handed_on words)
tested words is = go (command_of words) refl is
  where
    go : (o : Option Command) → command_of words ≡ o → is_some o ≡ true → AreCommand (handed_on words)
    go (Some command) named some = tested_one words command named
    go None named some = cc

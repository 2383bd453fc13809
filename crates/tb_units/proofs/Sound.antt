-- What is true of all dwellings and links that were read.
use Rattle.std.proofs.Common.{◌≡◌, ◌≢◌, ◌∙◌, sym, ap, subst, ℕ, zero, suc, ◌+◌, ◌<◌, ◌≤◌, Bool, true, false, List, [], ◌∷◌, ◌++◌, drop, take, length, map, get_or, Option, Some, None, Result, Ok, Err, arith, inl, inr}
use Rattle.std.specs.Prelude.{nat_lt, option_and_then, if◌then◌else◌, ◌==◌}
use Rattle.std.proofs.lemmas.Bool.{cases_Bool}
use Rattle.std.proofs.lemmas.Bool.Decides.{nat_tests}
use Rattle.std.proofs.lemmas.List.{drop_more, get_or-take, length-take-le, take-append-drop}
use Rattle.tb_base.specs.Numbers.{number_of}
use Rattle.tb_base.specs.Keys.{key_range}
use Rattle.tb_base.specs.declared.keys.Keys.{Keys}
use Rattle.tb_base.specs.declared.keys.Keys.TheVariants.{K256, K4096}
use Rattle.tb_base.specs.declared.keys.TheConstants.{MOST_KEYS}
use Rattle.tb_base.specs.declared.people.TheConstants.{MOST_PERSONS}
use Rattle.tb_model.specs.Units.{PairValue}
use Rattle.tb_records.specs.People.{key_of, person_of}
use Rattle.tb_rows.specs.Columns.{fields_at}
use Rattle.tb_rows.specs.Formats.{line_under}
use Rattle.tb_rows.specs.WholeFiles.{EachGoes}
use Rattle.tb_rows.proofs.Meaning.{each-at}
use Rattle.tb_rows.proofs.WholeFiles.{accepted_where}
use Rattle.tb_rows.specs.declared.fault.Fault.{Fault}
use Rattle.tb_rows.specs.declared.fault.Fault.TheVariants as file_fault
use Rattle.tb_units.specs.Faults.{in_file}
use Rattle.tb_units.specs.declared.fault.UnitsFile.{UnitsFile}
use Rattle.tb_units.specs.declared.fault.UnitsKind.{UnitsKind}
use Rattle.tb_units.specs.declared.fault.UnitsKind.TheVariants.{BadCsv}
use Rattle.tb_units.specs.Pairs.{has_first, pair_at}
use Rattle.tb_units.specs.Dwellings.{dwelling_in, dwelling_of, dwellings_file, dwellings_of}
use Rattle.tb_units.specs.Links.{links_file, links_of}
use Rattle.tb_units.specs.Whole.{AreKnown, AreWhole, HaveKeys, HaveOwn, IsSound}
use Rattle.tb_units.specs.WholeFiles.{AreDwellings, AreLinks, DwellingGoes, LinkGoes}
use Rattle.tb_units.proofs.WholeFiles.{are_dwellings, are_links}

-- the pairs before a place, the one there and those after it
parted : (pairs : List PairValue) (j : ℕ) → j < length pairs → take j pairs ++ pair_at pairs j ∷ drop (j + 1) pairs ≡ pairs
parted pairs j below = ap (λ xs. take j pairs ++ xs) (sym (drop_more pairs j (0, 0) below)) ∙ take-append-drop j pairs

module _ (Goes : List PairValue → PairValue → Type 0) where
  goes-at : (pairs : List PairValue) (j : ℕ) → EachGoes Goes [] pairs → j < length pairs → Goes (take j pairs) (pair_at pairs j)
  goes-at pairs j each below = each-at Goes (take j pairs) [] (pair_at pairs j) (drop (j + 1) pairs) (subst (EachGoes Goes []) (sym (parted pairs j below)) each)

-- a number that isn't first in any
not-first : (pairs : List PairValue) (n i : ℕ) → has_first pairs n ≡ false → i < length pairs → (pair_at pairs i).0 ≢ n
not-first [] n i none below = absurd (omega (arith, below))
not-first (p ∷ pairs) n i none below = λ same. elim (cases_Bool (n == p.0)) [
  | inl t ↦ let g = rw t at none in cc
  | inr t ↦ elim i as (λ i. i < length (p ∷ pairs) → (pair_at (p ∷ pairs) i).0 ≡ n → ⊥) [
    | zero ↦ λ _ e. let s : p.0 ≡ n = e in grind (arith, nat_tests)
    | suc i ↦ λ low e. not-first pairs n i (rw t at none) (omega (arith, low)) e
  ] below same
]

own-where : (Goes : List PairValue → PairValue → Type 0) (pairs : List PairValue) → ((before : List PairValue) (one : PairValue) → Goes before one → has_first before one.0 ≡ false) → EachGoes Goes [] pairs → HaveOwn pairs
own-where Goes pairs fresh each = λ i j low below.
    let none = fresh (take j pairs) (pair_at pairs j) (goes-at Goes pairs j each below) in
    let long : length (take j pairs) ≡ j = length-take-le j pairs (omega (arith, below)) in
    λ same. not-first (take j pairs) (pair_at pairs j).0 i none (omega (arith, low, long)) (ap (λ p. p.0) (get_or-take j pairs i (0, 0) low) ∙ same)

few-where : (Goes : List PairValue → PairValue → Type 0) (pairs : List PairValue) (most : ℕ) → ((before : List PairValue) (one : PairValue) → Goes before one → length before < most) → EachGoes Goes [] pairs → length pairs ≤ most
few-where Goes [] most room each = omega arith
few-where Goes (p ∷ pairs) most room each =
    let all : List PairValue = p ∷ pairs in
    let last : length pairs < length all = omega arith in
    let g = room (take (length pairs) all) (pair_at all (length pairs)) (goes-at Goes all (length pairs) each last) in
    omega (arith, g, length-take-le (length pairs) all (omega arith))

-- keys are in range
most-keys : (keys : Keys) → key_range keys ≤ MOST_KEYS
most-keys K256 = omega arith
most-keys K4096 = omega arith

key-low : (range : ℕ) (o : Option ℕ) (key : ℕ) → range ≤ MOST_KEYS → option_and_then (λ n. if nat_lt n range then Some n else None) o ≡ Some key → key < MOST_KEYS
key-low range None key most h = cc
key-low range (Some n) key most h = elim (cases_Bool (nat_lt n range)) [
  | inl t ↦ let same : n ≡ key = (let g = rw t at h in cc) in grind (arith, nat_tests)
  | inr t ↦ let g = rw t at h in cc
]

dwelling-key : (number key : Option ℕ) (one : PairValue) → dwelling_of number key ≡ Ok one → key ≡ Some one.1
dwelling-key (Some number) (Some key) one h = let same : (number, key) ≡ one = cc in ap (λ p. Some p.1) same
dwelling-key (Some number) None one h = cc
dwelling-key None key one h = cc

line-low : (keys : Keys) (b : Bool) (fields : List (List ℕ)) (one : PairValue) → (if b then dwelling_in keys fields else Err BadCsv) ≡ Ok one → one.1 < MOST_KEYS
line-low keys true fields one h = key-low (key_range keys) (number_of (get_or fields 1 [])) one.1 (most-keys keys) (dwelling-key (person_of (get_or fields 0 [])) (key_of keys (get_or fields 1 [])) one h)
line-low keys false fields one h = cc

keys-low : (most : ℕ) (keys : Keys) (width : ℕ) (indices : List ℕ) (records : List (List (List ℕ))) (lines : List PairValue) → map (line_under (dwellings_file most keys) width indices) records ≡ map (λ one. Ok one) lines → HaveKeys lines
keys-low most keys width indices [] [] h d below = absurd (omega (arith, below))
keys-low most keys width indices [] (one ∷ lines) h d below = cc
keys-low most keys width indices (fields ∷ records) [] h d below = cc
keys-low most keys width indices (fields ∷ records) (one ∷ lines) h zero below =
    let first : line_under (dwellings_file most keys) width indices fields ≡ Ok one = cc in
    line-low keys (length fields == width) (fields_at indices fields) one first
keys-low most keys width indices (fields ∷ records) (one ∷ lines) h (suc d) below =
    let others : map (line_under (dwellings_file most keys) width indices) records ≡ map (λ one. Ok one) lines = cc in
    keys-low most keys width indices records lines others d (omega (arith, below))

-- what is true of the dwellings that a file says
pub record GoodDwellings (dwellings : List PairValue) : Type 0 where
  pub own : HaveOwn dwellings
  pub keys : HaveKeys dwellings
  pub few : length dwellings ≤ MOST_PERSONS

pub good-dwellings : (most : ℕ) (keys : Keys) (bytes : List ℕ) (dwellings : List PairValue) → most ≤ MOST_PERSONS → dwellings_of most keys bytes ≡ Ok dwellings → GoodDwellings dwellings
good-dwellings most keys bytes dwellings within h =
    let (width, indices, records, lines, v, file, are, end) = (accepted_where (dwellings_file most keys) (AreDwellings most) (are_dwellings most keys) bytes dwellings).0 h in
    let same : lines ≡ dwellings = cc (are.together.1, end) in
    subst GoodDwellings same (record {
      own = own-where (DwellingGoes most) lines (λ before one g. g.0) are.together.0;
      keys = keys-low most keys width indices records lines are.each;
      few = omega (arith, few-where (DwellingGoes most) lines most (λ before one g. g.1) are.together.0, within);
    })

-- and of the links
pub record GoodLinks (dwellings links : List PairValue) : Type 0 where
  pub known : AreKnown dwellings links
  pub own : HaveOwn links
  pub few : length links ≤ MOST_PERSONS

pub good-links : (most : ℕ) (dwellings : List PairValue) (bytes : List ℕ) (links : List PairValue) → most ≤ MOST_PERSONS → links_of most dwellings bytes ≡ Ok links → GoodLinks dwellings links
good-links most dwellings bytes links within h =
    let (width, indices, records, lines, v, file, are, end) = (accepted_where (links_file most dwellings) (AreLinks most dwellings) (are_links most dwellings) bytes links).0 h in
    let same : lines ≡ links = cc (are.together.1, end) in
    subst (GoodLinks dwellings) same (record {
      known = λ k below. (let (known, fresh, room) = goes-at (LinkGoes most dwellings) lines k are.together.0 below in known);
      own = own-where (LinkGoes most dwellings) lines (λ before one g. let (known, fresh, room) = g in fresh) are.together.0;
      few = omega (arith, few-where (LinkGoes most dwellings) lines most (λ before one g. let (known, fresh, room) = g in room) are.together.0, within);
    })

pub sound : (dwellings links : List PairValue) → GoodDwellings dwellings → GoodLinks dwellings links → IsSound (record { dwellings = dwellings; links = links })
sound dwellings links ds ls = record { own_dwellings = ds.own; own_links = ls.own; keys = ds.keys; few_dwellings = ds.few; few_links = ls.few }

-- the same dwellings and links, kept otherwise
pub whole-as : (ds es ls ms : List PairValue) (heads nexts : List ℕ) → es ≡ ds → ms ≡ ls → AreWhole (record { dwellings = ds; links = ls }) heads nexts → AreWhole (record { dwellings = es; links = ms }) heads nexts
whole-as ds es ls ms heads nexts d l whole =
    subst (λ xs. AreWhole (record { dwellings = xs; links = ms }) heads nexts) (sym d) (subst (λ xs. AreWhole (record { dwellings = ds; links = xs }) heads nexts) (sym l) whole)

-- what was read of a file is what the file says
pub said : {A : Type 0} (file : UnitsFile) (r : Result A (Fault UnitsKind)) (x : A) → in_file file r ≡ Ok x → r ≡ Ok x
said file (Ok y) x h = cc
said file (Err (file_fault.Refused kind n)) x h = cc
said file (Err file_fault.Memory) x h = cc

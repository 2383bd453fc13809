-- Steps over a run's files, one after another.
use Rattle.std.proofs.Common.{◌≡◌, ◌≢◌, ◌∙◌, ap, sym, refl, ℕ, Bool, false, suc, zero, ◌<◌, ◌≤◌, List, [], ◌∷◌, ◌++◌, length, map, Option, option_map, Some, None, Result, Ok, Err, true, true≢false, arith, Global}
use Rattle.std.proofs.lemmas.Bool.{ne_eqb}
use Rattle.std.proofs.lemmas.List.{append-nil, append_assoc, length-map, map-append}
use Rattle.std.specs.Prelude.{IfErr, IfSome, flat_map, ◌==◌, ◌||◌}
use Rattle.std.specs.declared.vec.Vec.{Vec}
use Rattle.tb_io.specs.Faults.{HasRisen, one_more}
use Rattle.tb_io.proofs.FaultLemmas.{HasRisen-earlier}
use Rattle.tb_base.specs.declared.records.Record.{Record}
use Rattle.tb_base.specs.declared.keys.Keys.{Keys}
use Rattle.tb_base.specs.declared.status.Status.TheVariants as status
use Rattle.tb_ptable.specs.Table.{TableValue}
use Rattle.tb_model.specs.Releases.{first_release}
use Rattle.tb_model.specs.Schemas.{SchemaValue}
use Rattle.tb_model.specs.Setups.{SetupValue}
use Rattle.tb_ptable.specs.FaultNames.{fault_name as ptable_name}
use Rattle.tb_ptable.specs.Lines.{perturbation_of}
use Rattle.tb_records.specs.FaultNames.{fault_name as people_name}
use Rattle.tb_records.specs.People.{people_of}
use Rattle.tb_rows.specs.FaultNames.{FaultNameValue}
use Rattle.tb_rows.specs.declared.fault.Fault.{Fault}
use Rattle.tb_rows.specs.declared.fault.Fault.TheVariants as fault
use Rattle.tb_schema.specs.Recodes.{schema_of}
use Rattle.tb_schema.specs.declared.fault.ClassFile.TheVariants as class_file
use Rattle.tb_schema.specs.declared.fault.SchemaFault.{SchemaFault}
use Rattle.tb_schema.specs.declared.fault.SchemaFault.TheVariants as schema_fault
use Rattle.tb_model.specs.Units.{UnitsValue}
use Rattle.tb_units.specs.Units.{units_of}
use Rattle.tb_units.specs.declared.fault.UnitsFault.{UnitsFault}
use Rattle.tb_units.specs.declared.fault.UnitsFault.TheVariants as units_fault
use Rattle.tb_command.specs.declared.command.Inputs.{Inputs}
use Rattle.tb_command.specs.declared.command.UnitFiles.{UnitFiles}
use Rattle.tb_endings.specs.declared.endings.Input.{Input}
use Rattle.tb_endings.specs.declared.endings.Input.TheVariants as input
use Rattle.tb_endings.specs.declared.endings.End.{End}
use Rattle.tb_endings.specs.declared.endings.End.TheVariants as end
use Rattle.tb_top.specs.Asking.{◌>>=◌, CensusValue, Contents, base_in, bytes_in, bytes_within, census_bytes, census_bytes_in, census_in, census_of, census_over, contents_for, counted_in, input_place, most_bytes, or_end, people_added, people_in, perturbation_in, recodes_in, schema_in, setup_in, setup_over, units_in, with_units}
use Rattle.tb_endings.specs.Endings.{input_status, status_of}
use Rattle.tb_endings.specs.Refusals.{file_end, schema_end, units_end}
use Rattle.tb_top.specs.Calls.{IsReadTo, readings_more}
use Rattle.tb_top.specs.InputFiles.{NamedFile, counted_files, have_dwellings, input_files, is_of_dwellings, named, unit_files}
use Rattle.tb_top.specs.Loading.{Gives, Hold, IsWithUnits, Loads, Reading, census_value}

-- the records of lists, one list after another
abbrev pub all_of : Vec (Vec Record Global) Global → List Record
all_of lists = flat_map (λ list. list.items) lists.items

-- what is true of the contents, where they are told
IfSome-map : {A : Type 0} (P Q : A → Type 0) (o : Option A) → ((x : A) → P x → Q x) → IfSome o P → IfSome o Q
IfSome-map P Q None f h = tt
IfSome-map P Q (Some x) f h = f x h

IfSome-map2 : {A : Type 0} (P Q R : A → Type 0) (o o' : Option A) → o' ≡ o → ((x : A) → P x → Q x → R x) → IfSome o P → IfSome o' Q
    → IfSome o R
IfSome-map2 P Q R None o' same f h k = tt
IfSome-map2 P Q R (Some x) o' same f h k = f x h (rw same at k)

-- contents that hold the files of two steps hold those of each
Hold-first : (at : List ℕ → Option (List ℕ)) (files more : List NamedFile) (contents : Contents) → Hold at (files ++ more) contents
    → Hold at files contents
Hold-first at [] more contents h = tt
Hold-first at (file ∷ files) more contents h = (h.0, Hold-first at files more contents h.1)

Hold-second : (at : List ℕ → Option (List ℕ)) (files more : List NamedFile) (contents : Contents) → Hold at (files ++ more) contents
    → Hold at more contents
Hold-second at [] more contents h = h
Hold-second at (file ∷ files) more contents h = Hold-second at files more contents h.1

-- readings after readings
one-more-first : (n : ℕ) (count : Option ℕ) → option_map one_more (readings_more n count) ≡ readings_more n (option_map one_more count)
one-more-first zero count = refl
one-more-first (suc n) count = ap (option_map one_more) (one-more-first n count)

readings-of-both : {A : Type 0} (xs ys : List A) (count : Option ℕ) → readings_more (length (xs ++ ys)) count ≡ readings_more (length ys)
    (readings_more (length xs) count)
readings-of-both [] ys count = refl
readings-of-both (x ∷ xs) ys count = ap (option_map one_more) (readings-of-both xs ys count) ∙ one-more-first (length ys)
    (readings_more (length xs) count)

-- files of dwellings are among those of both steps
either-before : (a b c : Bool) → (b ≡ true → c ≡ true) → (a || b) ≡ true → (a || c) ≡ true
either-before true b c f h = refl
either-before false b c f h = f h

either-after : (a b : Bool) → b ≡ true → (a || b) ≡ true
either-after true b h = refl
either-after false b h = h

dwellings-before : (files more : List NamedFile) → have_dwellings files ≡ true → have_dwellings (files ++ more) ≡ true
dwellings-before [] more h = absurd (true≢false (sym h))
dwellings-before (file ∷ files) more h =
    either-before (is_of_dwellings file.input) (have_dwellings files) (have_dwellings (files ++ more)) (dwellings-before files more) h

dwellings-after : (files more : List NamedFile) → have_dwellings more ≡ true → have_dwellings (files ++ more) ≡ true
dwellings-after [] more h = h
dwellings-after (file ∷ files) more h =
    either-after (is_of_dwellings file.input) (have_dwellings (files ++ more)) (dwellings-after files more h)

units-later : {C : Type 0} (files more : List NamedFile) (result : Result C End) → IfErr result (IsWithUnits more)
    → IfErr result (IsWithUnits (files ++ more))
units-later files more (Ok x) h = h
units-later files more (Err e) h = λ k. dwellings-after files more (h k)

-- of one file
pub units_of_one : (file : Input) (name : List ℕ) → IsWithUnits (named file name ∷ []) (end.TooLong file)
units_of_one input.Classes name h = cc
units_of_one input.Recodes name h = cc
units_of_one input.Ptable name h = cc
units_of_one input.People name h = cc
units_of_one input.Dwellings name h = refl
units_of_one input.Links name h = refl
units_of_one input.Script name h = cc

inputs_of : List NamedFile → List Input
inputs_of files = map (λ f. f.input) files

-- reading ended at a file, and there are more files after it
IsReadTo-more : (files more : List NamedFile) (file : Input) (start over : Option ℕ) → IsReadTo files file start over → IsReadTo
    (files ++ more) file start over
unfolding inputs_of
IsReadTo-more files more file start over (before, rest, is, count) = (
  before,
  rest ++ inputs_of more,
  map-append (λ f. f.input) files more ∙ ap
      (λ (l : List Input). l ++ inputs_of more) is ∙ append_assoc before (file ∷ rest) (inputs_of more),
  count,
)

-- or all files before were read
IsReadTo-later : (files more : List NamedFile) (file : Input) (start between between' over : Option ℕ) → between ≡ readings_more
    (length files) start → between' ≡ between → IsReadTo more file between' over
    → IsReadTo (files ++ more) file start over
unfolding inputs_of
IsReadTo-later files more file start between between' over all same (before, rest, is, count) =
    let list = map-append (λ f. f.input) files more ∙ ap (λ l. inputs_of files ++ l) is ∙ sym
    (append_assoc (inputs_of files) before (file ∷ rest)) in
    let reads : over ≡ option_map one_more (readings_more (length before) (readings_more (length files) start)) = count ∙ ap
    (λ c. option_map one_more (readings_more (length before) c)) (same ∙ all) in
    let all_reads : readings_more (length (inputs_of files ++ before)) start ≡ readings_more (length before)
    (readings_more (length files) start) =
    readings-of-both (inputs_of files) before start ∙ ap (λ n. readings_more (length before) (readings_more n start))
    (length-map files (λ f. f.input)) in
    (inputs_of files ++ before, rest, list, reads ∙ sym (ap (option_map one_more) all_reads))

-- a step that ends the run ends what begins with it
pub Loads-fails : {A B C D : Type 0} (view : A → B) (view' : C → D) (defined : Contents → Result B End)
    (next : Contents → B → Result D End) {e : End} {saw : Reading} {place : ℕ} {files : List NamedFile}
    → Loads saw place files view defined (Err e) → Loads saw place files view' (λ contents. defined contents >>= next contents) (Err e)
Loads-fails {A} {B} {C} {D} view view' defined next {e} {saw} {place} {files} h = record {
  usage = λ k. h.usage (let same : e ≡ end.Usage = cc in ap (λ (x : End). Err x) same);
  count = h.count;
  same = h.same;
  gives = IfSome-map _ _ saw.content (λ at g contents held ne. rw (g contents held ne) refl) h.gives;
  risen = λ file k. h.risen file (let same : e ≡ end.Unread file = cc in ap (λ (x : End). Err x) same);
  within = λ file k. h.within file (let same : e ≡ end.Unread file = cc in ap (λ (x : End). Err x) same);
  last = λ file k. h.last file (let same : e ≡ end.Unread file = cc in ap (λ (x : End). Err x) same);
  units = h.units;
  all = λ x k. cc;
}

-- and no file after it is read
pub Loads-before : {A B : Type 0} (view : A → B) (defined : Contents → Result B End)
    (more : List NamedFile) {e : End} {saw : Reading} {place : ℕ} {files : List NamedFile}
    → Loads saw place files view defined (Err e) → Loads saw place (files ++ more) view defined (Err e)
Loads-before {A} {B} view defined more {e} {saw} {place} {files} h = record {
  usage = h.usage;
  count = h.count;
  same = h.same;
  gives = IfSome-map _ _ saw.content (λ at g contents held. g contents (Hold-first at files more contents held)) h.gives;
  risen = h.risen;
  within = h.within;
  last = λ file k. IsReadTo-more files more file saw.readings saw.readings_after (h.last file k);
  units = λ k. dwellings-before files more (h.units k);
  all = λ x k. cc;
}

-- a file that couldn't be read
same_place : (file : Input) → (input_place file == input_place file) ≡ true
same_place input.Classes = refl
same_place input.Recodes = refl
same_place input.Ptable = refl
same_place input.People = refl
same_place input.Dwellings = refl
same_place input.Links = refl
same_place input.Script = refl

pub Loads-unread : {A : Type 0} (view : A → List ℕ) (most : ℕ) (file : Input) (name : List ℕ) {saw : Reading} → saw.faults ≤ saw.faults_after
    → saw.content_after ≡ saw.content → HasRisen saw.faults saw.faults_after
    → saw.readings_after ≡ option_map one_more saw.readings → Loads saw (input_place file) (named file name ∷ []) view
    (λ contents. bytes_within most file (contents file)) (Err (end.Unread file))
Loads-unread {A} view most file name {saw} count same rose readings = record {
  usage = λ k. cc;
  count = count;
  same = same;
  gives = always _ saw.content (λ at contents held ne. rw (same_place file) refl);
  risen = λ other k. rose;
  within = λ other k. let is : file ≡ other = cc in omega (arith, ap input_place is);
  last = λ other k. let is : file ≡ other = cc in ([], [], ap (λ (f : Input). f ∷ []) is, readings);
  units = λ k. cc;
  all = λ x k. cc;
} where
  always : {X : Type 0} (P : X → Type 0) (o : Option X) → ((x : X) → P x) → IfSome o P
  always P None f = tt
  always P (Some x) f = f x

-- what one step and the next see together
abbrev pub both : Reading → Reading → Reading
both one two = record {
  content = one.content;
  content_after = two.content_after;
  faults = one.faults;
  faults_after = two.faults_after;
  readings = one.readings;
  readings_after = two.readings_after;
}

-- a definition doesn't look at the files from a place on
abbrev pub Skips : {B : Type 0} → (Contents → Result B End) → ℕ → Type 0
Skips defined place = (contents : Contents) (e : End) → ((file : Input) → e ≡ end.Unread file → place ≤ input_place file) → defined
    (contents_for e contents) ≡ defined contents

gives_next : {A B C D : Type 0} (view : A → B) (view' : C → D) (defined : Contents → Result B End) (next : Contents → B → Result D End)
    (x : A) (result : Result C End) (contents : Contents) (place : ℕ)
    → Skips defined place → ((file : Input) → result ≡ Err (end.Unread file) → place ≤ input_place file)
    → Gives view defined contents (Ok x) → Gives view' (λ contents. next contents (view x)) contents result → Gives view'
    (λ contents. defined contents >>= next contents) contents result
gives_next view view' defined next x (Ok y) contents place skips within h k = rw h k
gives_next view view' defined next x (Err e) contents place skips within h k = λ ne.
    let same : defined (contents_for e contents) ≡ Ok (view x) = skips contents e (λ file u. within file (ap (λ (x : End). Err x) u)) ∙ h in
    rw same (k ne)

-- two steps, of which the first doesn't look at the files of the second
pub Loads-then : {A B C D : Type 0} (view : A → B) (view' : C → D) (defined : Contents → Result B End)
    (next : Contents → B → Result D End) (x : A) (result : Result C End)
    {one two : Reading} {place place' : ℕ} {files more : List NamedFile}
    → Skips defined place' → place ≤ place' → two.content ≡ one.content_after → two.faults ≡ one.faults_after
    → two.readings ≡ one.readings_after
    → Loads one place files view defined (Ok x) → Loads two place' more view' (λ contents. next contents (view x)) result
    → Loads (both one two) place (files ++ more) view' (λ contents. defined contents >>= next contents) result
Loads-then {A} {B} {C} {D} view view' defined next x result {one} {two} {place} {place'} {files} {more} skips up content faults readings h
    k =
    let count : one.faults_after ≤ two.faults_after = rw faults at k.count in
    record {
      usage = k.usage;
      count = omega (arith, h.count, count);
      same = k.same ∙ content ∙ h.same;
      gives = IfSome-map2 _ _ _ one.content two.content (content ∙ h.same)
          (λ at g g' contents held. gives_next view view' defined next x result contents place' skips k.within
          (g contents (Hold-first at files more contents held))
          (g' contents (Hold-second at files more contents held))) h.gives k.gives;
      risen = λ file u. let r : HasRisen one.faults_after two.faults_after = rw faults at
          (k.risen file u) in HasRisen-earlier _ _ _ h.count r count;
      within = λ file u. omega (arith, k.within file u, up);
      last = λ file u. IsReadTo-later files more file one.readings one.readings_after two.readings two.readings_after
          (h.all x refl) readings (k.last file u);
      units = units-later files more result k.units;
      all = λ y u. k.all y u ∙ ap (readings_more (length more)) (readings ∙ h.all x refl) ∙ sym (readings-of-both files more one.readings);
    }

-- after the last file there is nothing more to read
pub Loads-ends : {A B C D : Type 0} (view : A → B) (view' : C → D) (defined : Contents → Result B End)
    (next : Contents → B → Result D End) (x : A) (y : C)
    {saw : Reading} {place : ℕ} {files : List NamedFile}
    → ((contents : Contents) → next contents (view x) ≡ Ok (view' y))
    → Loads saw place files view defined (Ok x) → Loads saw place files view' (λ contents. defined contents >>= next contents) (Ok y)
Loads-ends {A} {B} {C} {D} view view' defined next x y {saw} {place} {files} given h = record {
  usage = λ k. cc;
  count = h.count;
  same = h.same;
  gives = IfSome-map _ _ saw.content (λ at g contents held. rw (g contents held) (given contents)) h.gives;
  risen = λ file k. cc;
  within = λ file k. cc;
  last = λ file k. cc;
  units = tt;
  all = λ z k. h.all x refl;
}

pub contents_same : (e : End) → ((file : Input) → e ≢ end.Unread file) → (contents : Contents) → contents_for e contents ≡ contents
contents_same (end.Unread file) unread contents = absurd (unread file refl)
contents_same end.Usage unread contents = refl
contents_same (end.TooLong file) unread contents = refl
contents_same (end.Refused file name at) unread contents = refl
contents_same (end.BadLine at) unread contents = refl
contents_same end.Memory unread contents = refl

-- or the end by what its reader refuses, or memory's
pub Loads-refuses : {A B C D : Type 0} (view : A → B) (view' : C → D) (defined : Contents → Result B End)
    (next : Contents → B → Result D End) (x : A) (e : End)
    {saw : Reading} {place : ℕ} {files : List NamedFile}
    → e ≢ end.Usage → ((file : Input) → e ≢ end.Unread file) → ((contents : Contents) → e ≢ end.Memory → next contents (view x) ≡ Err e)
    → Loads saw place files view defined (Ok x) → IsWithUnits files e
    → Loads saw place files view' (λ contents. defined contents >>= next contents) (Err e)
Loads-refuses {A} {B} {C} {D} view view' defined next x e {saw} {place} {files} usage unread given h units = record {
  usage = λ k. usage cc;
  count = h.count;
  same = h.same;
  gives = IfSome-map _ _ saw.content (λ at g contents held ne.
      let first : defined (contents_for e contents) ≡ Ok (view x) = ap defined (contents_same e unread contents) ∙ g contents held in
      rw first (given (contents_for e contents) ne)) h.gives;
  risen = λ file k. absurd (unread file cc);
  within = λ file k. absurd (unread file cc);
  last = λ file k. absurd (unread file cc);
  units = units;
  all = λ z k. cc;
}

pub Loads-memory : {A B C D : Type 0} (view : A → B) (view' : C → D) (defined : Contents → Result B End)
    (next : Contents → B → Result D End) (x : A)
    {saw : Reading} {place : ℕ} {files : List NamedFile}
    → Loads saw place files view defined (Ok x) → Loads saw place files view' (λ contents. defined contents >>= next contents)
    (Err end.Memory)
Loads-memory view view' defined next x h = Loads-refuses view view' defined next x end.Memory (λ k. cc) (λ file k. cc)
    (λ contents ne. absurd (ne refl)) h (λ k. cc)

-- by its reader's fault
not_by_reader : {K : Type 0} (file : Input) (name_of : K → FaultNameValue) (f : Fault K) → (file_end file name_of f ≢ end.Usage) ×
    ((other : Input) → file_end file name_of f ≢ end.Unread other)
not_by_reader file name_of (fault.Refused kind at) = (λ h. cc, λ other h. cc)
not_by_reader file name_of fault.Memory = (λ h. cc, λ other h. cc)

no-units-by-reader : {K : Type 0} (file : Input) (name_of : K → FaultNameValue) (f : Fault K) → input_status file ≢ status.Units
    → status_of (file_end file name_of f) ≢ status.Units
no-units-by-reader file name_of (fault.Refused kind at) other h = other h
no-units-by-reader file name_of fault.Memory other h = cc

pub Loads-refused : {V A B K : Type 0} (items : V → List ℕ) (view : A → B) (most : ℕ) (file : Input) (name_of : K → FaultNameValue)
    (read : List ℕ → Result B (Fault K)) (x : V) (f : Fault K) {saw : Reading} {place : ℕ} {files : List NamedFile}
    → input_status file ≢ status.Units → (f ≢ fault.Memory → read (items x) ≡ Err f) → Loads saw place files items (λ contents. bytes_within most file (contents file)) (Ok x)
    → Loads saw place files view (λ contents. bytes_within most file (contents file) >>= (λ bytes. or_end (file_end file name_of) (read bytes)))
    (Err (file_end file name_of f))
Loads-refused {V} {A} {B} {K} items view most file name_of read x f other given h =
    let not = not_by_reader file name_of f in
    Loads-refuses items view (λ contents. bytes_within most file (contents file)) (λ contents bytes. or_end (file_end file name_of) (read bytes)) x
    (file_end file name_of f) not.0 not.1
    (λ contents ne. ap (or_end (file_end file name_of)) (given (λ m. ne (ap (file_end file name_of) m)))) h
    (λ k. absurd (no-units-by-reader file name_of f other k))

not_by_schema : (f : SchemaFault) → (schema_end f ≢ end.Usage) × ((other : Input) → schema_end f ≢ end.Unread other)
not_by_schema (schema_fault.Refused file kind at) = (λ h. cc, λ other h. cc)
not_by_schema schema_fault.Memory = (λ h. cc, λ other h. cc)

no-units-by-schema : (f : SchemaFault) → status_of (schema_end f) ≢ status.Units
no-units-by-schema (schema_fault.Refused class_file.Classes kind at) h = cc
no-units-by-schema (schema_fault.Refused class_file.Recodes kind at) h = cc
no-units-by-schema schema_fault.Memory h = cc

pub Loads-refused-schema : {V : Type 0} (recodes : V → Option (List ℕ)) (classes : List ℕ) (name : Option (List ℕ)) (x : V)
    (f : SchemaFault) {saw : Reading} {place : ℕ} {files : List NamedFile}
    → (f ≢ schema_fault.Memory → schema_of classes (recodes x) ≡ Err f) → Loads saw place files recodes (recodes_in name) (Ok x)
    → Loads saw place files (λ (s : SchemaValue). s)
    (λ contents. recodes_in name contents >>= (λ r. or_end schema_end (schema_of classes r))) (Err (schema_end f))
Loads-refused-schema recodes classes name x f given h =
    let not = not_by_schema f in
    Loads-refuses recodes (λ s. s) (recodes_in name) (λ contents r. or_end schema_end (schema_of classes r)) x (schema_end f) not.0 not.1
    (λ contents ne. ap (or_end schema_end) (given (λ m. ne (ap schema_end m)))) h (λ k. absurd (no-units-by-schema f k))

not_by_units : (f : UnitsFault) → (units_end f ≢ end.Usage) × ((other : Input) → units_end f ≢ end.Unread other)
not_by_units (units_fault.Refused file kind at) = (λ h. cc, λ other h. cc)
not_by_units units_fault.Memory = (λ h. cc, λ other h. cc)

pub Loads-refused-units : {V : Type 0} (items : V → List ℕ) (schema : SchemaValue) (dwellings : List ℕ) (x : V)
    (f : UnitsFault) {saw : Reading} {place : ℕ} {files : List NamedFile}
    → (f ≢ units_fault.Memory → units_of schema.persons schema.keys dwellings (items x) ≡ Err f) → Loads saw place files items (λ contents. census_bytes_in schema input.Links (contents input.Links)) (Ok x)
    → have_dwellings files ≡ true → Loads saw place files (λ (u : UnitsValue). u)
    (λ contents. census_bytes_in schema input.Links (contents input.Links) >>= (λ links. or_end units_end (units_of schema.persons schema.keys dwellings links))) (Err (units_end f))
Loads-refused-units items schema dwellings x f given h have =
    let not = not_by_units f in
    Loads-refuses items (λ u. u) (λ contents. census_bytes_in schema input.Links (contents input.Links)) (λ contents links. or_end units_end (units_of schema.persons schema.keys dwellings links)) x (units_end f) not.0 not.1
    (λ contents ne. ap (or_end units_end) (given (λ m. ne (ap units_end m)))) h (λ k. have)

-- without a file from a place on, each file before it has its bytes
same-before : (e : End) (contents : Contents) (file : Input) (place : ℕ) →
    ((other : Input) → e ≡ end.Unread other → place ≤ input_place other) → input_place file < place
    → contents_for e contents file ≡ contents file
same-before (end.Unread other) contents file place h below =
    let ne : input_place other ≢ input_place file = λ same. omega (arith, h other refl, below, same) in
    rw (ne_eqb (input_place other) (input_place file) ne) refl
same-before end.Usage contents file place h below = refl
same-before (end.TooLong other) contents file place h below = refl
same-before (end.Refused other name at) contents file place h below = refl
same-before (end.BadLine at) contents file place h below = refl
same-before end.Memory contents file place h below = refl

bind_same : {A B : Type 0} (r : Result A End) (f f' : A → Result B End) → ((x : A) → f x ≡ f' x) → (r >>= f) ≡ (r >>= f')
bind_same (Ok x) f f' h = h x
bind_same (Err e) f f' h = refl

-- two steps that don't look there
Skips-then : {B D : Type 0} (defined : Contents → Result B End) (next : Contents → B → Result D End) (place : ℕ) → Skips defined place →
    ((x : B) → Skips (λ contents. next contents x) place)
    → Skips (λ contents. defined contents >>= next contents) place
Skips-then {B} {D} defined next place h k contents e u =
    ap (λ (r : Result B End). r >>= next (contents_for e contents)) (h contents e u) ∙ bind_same (defined contents)
    (next (contents_for e contents)) (next contents) (λ x. k x contents e u)

pub skips-bytes : (most : ℕ) (file : Input) (place : ℕ) → input_place file < place → Skips (λ contents. bytes_within most file (contents file)) place
skips-bytes most file place below contents e h = ap (bytes_within most file) (same-before e contents file place h below)

skips-recodes : (recodes : Option (List ℕ)) (place : ℕ) → 1 < place → Skips (recodes_in recodes) place
skips-recodes None place below contents e h = refl
skips-recodes (Some name) place below contents e h = ap (λ r. r >>= (λ bytes. Ok (Some bytes)))
    (skips-bytes (most_bytes input.Recodes) input.Recodes place below contents e h)

pub skips-schema : (recodes : Option (List ℕ)) (place : ℕ) → 1 < place → Skips (schema_in recodes) place
skips-schema recodes place below =
    Skips-then (λ contents. bytes_in input.Classes (contents input.Classes))
    (λ contents classes. recodes_in recodes contents >>= (λ r. or_end schema_end (schema_of classes r))) place
    (skips-bytes (most_bytes input.Classes) input.Classes place (omega (arith, below)))
    (λ classes. Skips-then (recodes_in recodes) (λ contents r. or_end schema_end (schema_of classes r)) place
    (skips-recodes recodes place below) (λ r contents e h. refl))

pub skips-perturbation : (keys : Keys) (place : ℕ) → 2 < place → Skips (perturbation_in keys) place
skips-perturbation keys place below =
    Skips-then (λ contents. bytes_in input.Ptable (contents input.Ptable))
    (λ contents bytes. or_end (file_end input.Ptable ptable_name) (perturbation_of keys bytes)) place
    (skips-bytes (most_bytes input.Ptable) input.Ptable place below) (λ bytes contents e h. refl)

pub skips-people : (schema : SchemaValue) (place : ℕ) → 3 < place → Skips (people_in schema) place
skips-people schema place below =
    Skips-then (λ contents. census_bytes_in schema input.People (contents input.People))
    (λ contents bytes. or_end (file_end input.People people_name) (people_of schema bytes)) place
    (skips-bytes (census_bytes schema) input.People place below) (λ bytes contents e h. refl)

-- what comes after a classification, a setup, microdata and release 0
abbrev pub setup_with : SchemaValue → TableValue → SetupValue
setup_with schema table = record { schema = schema; lines = table.lines; units = None }

abbrev pub after_setup : Inputs → Contents → SetupValue → Result CensusValue End
after_setup inputs contents setup = people_added inputs setup contents

skips-setup-over : (schema : SchemaValue) (place : ℕ) → 2 < place → Skips (setup_over schema) place
skips-setup-over schema place below =
    Skips-then (perturbation_in schema.keys) (λ contents table. Ok (setup_with schema table)) place
    (skips-perturbation schema.keys place below) (λ table contents e h. refl)

pub skips-setup : (inputs : Inputs) (place : ℕ) → 2 < place → Skips (setup_in inputs) place
skips-setup inputs place below =
    Skips-then (schema_in inputs.recodes) (λ contents schema. setup_over schema contents) place
    (skips-schema inputs.recodes place (omega (arith, below))) (λ schema. skips-setup-over schema place below)

skips-base : (inputs : Inputs) (schema : SchemaValue) (place : ℕ) → 3 < place → Skips (base_in inputs schema) place
skips-base inputs schema place below =
    Skips-then (people_in schema) (λ contents records. Ok (first_release schema.persons inputs.threshold records)) place
    (skips-people schema place below) (λ records contents e h. refl)

pub skips-census : (inputs : Inputs) (place : ℕ) → 3 < place → Skips (census_in inputs) place
skips-census inputs place below =
    Skips-then (setup_in inputs) (after_setup inputs) place (skips-setup inputs place (omega (arith, below)))
    (λ setup. Skips-then (base_in inputs setup.schema) (λ contents base. Ok (census_over setup base)) place
    (skips-base inputs setup.schema place below) (λ base contents e h. refl))

pub skips-units : (schema : SchemaValue) (place : ℕ) → 5 < place → Skips (units_in schema) place
skips-units schema place below =
    Skips-then (λ contents. census_bytes_in schema input.Dwellings (contents input.Dwellings))
    (λ contents dwellings. census_bytes_in schema input.Links (contents input.Links) >>= (λ links. or_end units_end (units_of schema.persons schema.keys dwellings links))) place
    (skips-bytes (census_bytes schema) input.Dwellings place (omega (arith, below)))
    (λ dwellings. Skips-then (λ contents. census_bytes_in schema input.Links (contents input.Links)) (λ contents links. or_end units_end (units_of schema.persons schema.keys dwellings links)) place
    (skips-bytes (census_bytes schema) input.Links place below) (λ links contents e h. refl))

-- what comes after a census, where there are dwellings
abbrev pub after_census : Contents → CensusValue → Result CensusValue End
after_census contents census = units_in census.setup.schema contents >>= (λ units. Ok (with_units census units))

pub skips-counted : (inputs : Inputs) (place : ℕ) → 5 < place → Skips (counted_in inputs) place
skips-counted inputs place below =
    Skips-then (census_in inputs) after_census place (skips-census inputs place (omega (arith, below)))
    (λ census. Skips-then (units_in census.setup.schema) (λ contents units. Ok (with_units census units)) place
    (skips-units census.setup.schema place below) (λ units contents e h. refl))

-- a census that is read, with dwellings or without
pub skips-census-of : (inputs : Inputs) (units : Option UnitFiles) (place : ℕ) → 5 < place → Skips (census_of inputs units) place
skips-census-of inputs None place below = skips-census inputs place (omega (arith, below))
skips-census-of inputs (Some files) place below = skips-counted inputs place below

-- no files more
pub Loads-none-more : {A B : Type 0} (view : A → B) (defined : Contents → Result B End) (files : List NamedFile) (result : Result A End)
    {saw : Reading} {place : ℕ} → Loads saw place files view defined result → Loads saw place (files ++ []) view defined result
Loads-none-more view defined files result {saw} {place} h = rw (append-nil files) h

-- how it ends before its dwellings
pub census-of-fails : (inputs : Inputs) (units : Option UnitFiles) {e : End} {saw : Reading}
    → Loads saw 0 (input_files inputs) census_value (census_in inputs) (Err e)
    → Loads saw 0 (counted_files inputs units) census_value (census_of inputs units) (Err e)
census-of-fails inputs None h = Loads-none-more census_value (census_in inputs) (input_files inputs) (Err _) h
census-of-fails inputs (Some files) h =
    Loads-before census_value (counted_in inputs) (unit_files (Some files)) (Loads-fails census_value census_value (census_in inputs) after_census h)

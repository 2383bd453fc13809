-- What a generated population asks for, by steps over its files in memory.
use Rattle.std.proofs.Common.{◌≡◌, ◌≢◌, ◌∙◌, ap, sym, subst, refl, ℕ, List, [], Option, None, Some, Result, Ok, Err, false, true≢false, arith}
use Rattle.std.specs.Prelude.{◌≤◌, IfErr, IfSome, bytes_eq, codes, length, unwrap_or}
use Rattle.std.proofs.lemmas.Bool.{le-ltb}
use Rattle.tb_script.specs.Scripts.{ScriptValue, script_lines, script_value}
use Rattle.std.proofs.lemmas.Slice.Eq.{bytes_eq-Decides}
use Rattle.tb_gen_laws.proofs.Computed.{classes-short, recodes-short, schema-is, schema-said, whole_schema}
use Rattle.tb_gen_laws.proofs.Microdata.{people-accepted, people-short}
use Rattle.tb_gen_laws.proofs.Perturbations.{table-accepted, table-short}
use Rattle.tb_gen_laws.proofs.ScriptRounds.{script-is}
use Rattle.tb_gen_laws.proofs.ScriptTexts.{text-accepted}
use Rattle.tb_gen_laws.specs.People.{generated_records}
use Rattle.tb_gen_laws.specs.Perturbations.{generated_table}
use Rattle.tb_gen.specs.Generated.{generated_classes, generated_people, generated_ptable, generated_recodes, generated_script}
use Rattle.tb_io.specs.Faults.{HasRisen}
use Rattle.tb_io.specs.HeldFiles.{HasHeld, HeldFiles, bytes_of, bytes_or_none}
use Rattle.tb_command.specs.declared.command.Inputs.{Inputs}
use Rattle.tb_top.specs.declared.asked.Asked.{Asked}
use Rattle.tb_top.specs.declared.asked.AskedLines.TheVariants as lines
use Rattle.tb_top.specs.declared.asked.Scripted.{Scripted}
use Rattle.tb_command.specs.declared.command.Owner.TheVariants as owner
use Rattle.tb_endings.specs.declared.endings.Input.{Input}
use Rattle.tb_endings.specs.declared.endings.Input.TheVariants as input
use Rattle.tb_endings.specs.declared.endings.End.{End}
use Rattle.tb_endings.specs.declared.endings.End.TheVariants as end
use Rattle.tb_top.specs.Asking.{AskedValue, CensusValue, Contents, asked_with, bytes_within, census_bytes, generated_asked, most_bytes, people_in, perturbation_in, schema_in, script_in, scripted_in, sums_over}
use Rattle.tb_top.specs.InputFiles.{NamedFile, scripted_files}
use Rattle.tb_endings.specs.Endings.{input_name, status_of}
use Rattle.tb_base.specs.declared.status.Status.TheVariants as status
use Rattle.tb_top.specs.GeneratedFiles.{HoldGenerated, generated_contents, generated_inputs}
use Rattle.tb_top.specs.Loading.{Hold, IsWithUnits, Loads, Makes, Reading, asked_value, census_value, scripted_value}
use Rattle.tb_command.specs.Populations.{HasPersons, Population}
use Rattle.tb_top.proofs.LoadSteps.{Loads-ends, Loads-fails, contents_same}
use Rattle.tb_top.proofs.Telling.{always_told}

-- texts that the test tells apart
differ : (a b : List ℕ) → bytes_eq a b ≡ false → a ≢ b
differ a b apart same = true≢false (sym ((bytes_eq-Decides a b).1 same) ∙ apart)

-- bytes are held under a name, by other names of both
pub held-as : {before after : HeldFiles} {name bytes name' bytes' : List ℕ} → name ≡ name' → bytes ≡ bytes' → HasHeld before after name bytes
    → HasHeld before after name' bytes'
held-as n b h = rw (← n, ← b) h

-- what is held for each file, one after another, stands under its own name
pub hold-all : {a b c d e f : HeldFiles} (p : Population) → HasHeld a b (input_name input.Classes) generated_classes
    → HasHeld b c (input_name input.Recodes) generated_recodes → HasHeld c d (input_name input.Ptable) (generated_ptable p.start)
    → HasHeld d e (input_name input.People) (generated_people p.persons p.start)
    → HasHeld e f (input_name input.Script) (generated_script p.persons p.start) → HoldGenerated p f
hold-all p one two three four five input.Classes =
    five.others (input_name input.Classes) (differ (codes "classes") (codes "script") refl)
    ∙ four.others (input_name input.Classes) (differ (codes "classes") (codes "people") refl)
    ∙ three.others (input_name input.Classes) (differ (codes "classes") (codes "ptable") refl)
    ∙ two.others (input_name input.Classes) (differ (codes "classes") (codes "recodes") refl)
    ∙ one.here
hold-all p one two three four five input.Recodes =
    five.others (input_name input.Recodes) (differ (codes "recodes") (codes "script") refl)
    ∙ four.others (input_name input.Recodes) (differ (codes "recodes") (codes "people") refl)
    ∙ three.others (input_name input.Recodes) (differ (codes "recodes") (codes "ptable") refl)
    ∙ two.here
hold-all p one two three four five input.Ptable =
    five.others (input_name input.Ptable) (differ (codes "ptable") (codes "script") refl)
    ∙ four.others (input_name input.Ptable) (differ (codes "ptable") (codes "people") refl)
    ∙ three.here
hold-all p one two three four five input.People =
    five.others (input_name input.People) (differ (codes "people") (codes "script") refl)
    ∙ four.here
hold-all p one two three four five input.Dwellings = tt
hold-all p one two three four five input.Links = tt
hold-all p one two three four five input.Script =
    five.here

-- so they are the contents of the script that runs over them
pub holds-generated : (p : Population) (files : HeldFiles) → HoldGenerated p files
    → Hold (λ name. Some (bytes_or_none files name)) (scripted_files generated_inputs (input_name input.Script))
    (generated_contents p)
holds-generated p files held =
    let at : (file : Input) (bytes : List ℕ) → bytes_of files (input_name file) ≡ Some bytes → Some bytes ≡ Some (bytes_or_none files (input_name file)) =
    λ file bytes is. ap (λ (o : Option (List ℕ)). Some (unwrap_or o [])) (sym is) in
    (at input.Classes _ (held input.Classes), (at input.Recodes _ (held input.Recodes), (at input.Ptable _ (held input.Ptable), (at input.People _ (held input.People), (at input.Script _ (held input.Script), tt)))))

-- what is true of told contents
told : {A : Type 0} (P : A → Type 0) (o : Option A) (x : A) → o ≡ Some x → IfSome o P → P x
told P o x same h = rw same at h

-- a step over files that never fail makes what is defined over what they hold
pub makes-of : {A B : Type 0} (view : A → B) (defined : Contents → Result B End) (contents : Contents)
    (at : List ℕ → Option (List ℕ)) (files : List NamedFile) (place : ℕ) (result : Result A End) {saw : Reading} → saw.content ≡ Some at
    → (HasRisen saw.faults saw.faults_after → ⊥) → Hold at files contents → Loads saw place files view defined result
    → Makes view (defined contents) result
makes-of view defined contents at files place (Ok x) {saw} content sure held h = told _ saw.content at content h.gives contents held
makes-of view defined contents at files place (Err e) {saw} content sure held h =
    let unread = λ (file : Input) (u : e ≡ end.Unread file). sure (h.risen file (ap (λ (x : End). Err x) u)) in (
      λ u. h.usage (ap (λ (x : End). Err x) u),
      unread,
      λ ne. ap defined (sym (contents_same e unread contents)) ∙ told _ saw.content at content h.gives contents held ne,
    )

-- a step that reads no file
pub loads-none : {A B : Type 0} (view : A → B) (defined : Result B End) (result : Result A End) (saw : Reading) {place : ℕ}
    → saw.content_after ≡ saw.content → saw.faults_after ≡ saw.faults → saw.readings_after ≡ saw.readings → IfErr result (IsWithUnits [])
    → Makes view defined result
    → Loads saw place [] view (λ _. defined) result
loads-none view defined (Ok x) saw {place} content faults readings units makes = record {
  usage = λ k. cc;
  count = omega (arith, faults);
  same = content;
  gives = always_told _ saw.content (λ at contents held. makes);
  risen = λ file k. cc;
  within = λ file k. cc;
  last = λ file k. cc;
  units = units;
  all = λ y k. readings;
}
loads-none view defined (Err e) saw {place} content faults readings units (usage, unread, gives) = record {
  usage = λ k. usage cc;
  count = omega (arith, faults);
  same = content;
  gives = always_told _ saw.content (λ at contents held. gives);
  risen = λ file k. absurd (unread file cc);
  within = λ file k. absurd (unread file cc);
  last = λ file k. absurd (unread file cc);
  units = units;
  all = λ y k. cc;
}

-- an end by memory alone is at no file
pub no-units-alone : {A : Type 0} (files : List NamedFile) (result : Result A End) → IfErr result (λ e. e ≡ end.Memory) → IfErr result (IsWithUnits files)
no-units-alone files (Ok x) h = h
no-units-alone files (Err e) h = λ k. let bad : status.Memory ≡ status.Units = sym (ap status_of h) ∙ k in cc

-- what a census and a script are asked for, as those of a population
abbrev pub summed_over : Population → Scripted → Asked
summed_over p read = record { census = read.census; owner = owner.Custodian; lines = lines.Sums p read.script }

abbrev pub gen_of : Population → Result Scripted End → Result Asked End
gen_of p (Ok read) = Ok (summed_over p read)
gen_of p (Err e) = Err e

abbrev pub sum_of : Population → CensusValue → ScriptValue → AskedValue
sum_of p census script = asked_with census owner.Custodian (lines.Sums p script)

-- where they are read from files
gen_read : (p q : Population) (inputs : Inputs) (read : Result Scripted End) {saw : Reading} {files : List NamedFile} → q ≡ p
    → Loads saw 0 files scripted_value (scripted_in inputs) read
    → Loads saw 0 files asked_value (sums_over p inputs) (gen_of q read)
gen_read p q inputs (Ok read) {saw} {files} is h =
    Loads-ends scripted_value asked_value (scripted_in inputs) (λ contents (r : CensusValue × ScriptValue). Ok (sum_of p r.0 r.1)) read
    (summed_over q read) (λ contents. ap (λ (k : Population). Ok (sum_of k (census_value read.census) read.script)) (sym is)) h
gen_read p q inputs (Err e) {saw} {files} is h =
    Loads-fails scripted_value asked_value (scripted_in inputs) (λ contents (r : CensusValue × ScriptValue). Ok (sum_of p r.0 r.1)) h

-- under the names that the generated files have
pub loads-gen : (p q : Population) (inputs inputs' : Inputs) (name name' : List ℕ) (read : Result Scripted End) {saw : Reading}
    → q ≡ p → inputs ≡ inputs' → name ≡ name'
    → Loads saw 0 (scripted_files inputs name) scripted_value (scripted_in inputs) read
    → Loads saw 0 (scripted_files inputs' name') asked_value (sums_over p inputs') (gen_of q read)
loads-gen p q inputs inputs' name name' read {saw} is one two h =
    let result : Result Asked End = gen_of q read in
    let P : Inputs → Type 0 = λ i. Loads saw 0 (scripted_files i name) asked_value (sums_over p i) result in
    let Q : List ℕ → Type 0 = λ n. Loads saw 0 (scripted_files inputs' n) asked_value (sums_over p inputs') result in
    subst Q two (subst P one (gen_read p q inputs read is h))

-- ---- the files are accepted

-- an end that can't be another than memory's
memory-alone : (e : End) → (e ≢ end.Memory → ⊥) → e ≡ end.Memory
memory-alone end.Memory never = refl
memory-alone end.Usage never = absurd (never (λ h. cc))
memory-alone (end.TooLong file) never = absurd (never (λ h. cc))
memory-alone (end.Unread file) never = absurd (never (λ h. cc))
memory-alone (end.Refused file name at) never = absurd (never (λ h. cc))
memory-alone (end.BadLine at) never = absurd (never (λ h. cc))

-- a file that isn't too long
short-bytes : (most : ℕ) (file : Input) (bytes : List ℕ) → length bytes ≤ most → bytes_within most file (Some bytes) ≡ Ok bytes
short-bytes most file bytes short = rw (le-ltb most (length bytes) short) refl

module _ (p : Population) (has : HasPersons p) where
  abbrev contents : Contents
  contents = generated_contents p

  abbrev script : ScriptValue
  script = script_value (script_lines (generated_script p.persons p.start))

  schema-there : schema_in generated_inputs.recodes contents ≡ Ok whole_schema
  schema-there =
      rw (
        short-bytes (most_bytes input.Classes) input.Classes generated_classes (omega (arith, classes-short)),
        short-bytes (most_bytes input.Recodes) input.Recodes generated_recodes (omega (arith, recodes-short)),
        schema-said,
      ) refl

  table-there : perturbation_in whole_schema.keys contents ≡ Ok (generated_table p.start)
  table-there = rw (short-bytes (most_bytes input.Ptable) input.Ptable (generated_ptable p.start) (table-short p.start), table-accepted p.start) refl

  people-there : people_in whole_schema contents ≡ Ok (generated_records p.persons p.start)
  people-there =
      rw (
        short-bytes (census_bytes whole_schema) input.People (generated_people p.persons p.start) (people-short p.persons p.start has.few),
        people-accepted p.persons p.start has.few whole_schema schema-is,
      ) refl

  script-there : script_in contents ≡ Ok script
  script-there =
      let text = script-is p.persons (omega (arith, has.some)) has.few p.start in
      rw (
        short-bytes (most_bytes input.Script) input.Script (generated_script p.persons p.start) (omega (arith, text.short)),
        text-accepted (generated_script p.persons p.start) 17746 text,
      ) refl

  abbrev census : CensusValue
  census = record {
    setup = record { schema = whole_schema; lines = (generated_table p.start).lines; units = None };
    most = whole_schema.persons;
    threshold = generated_inputs.threshold;
    records = generated_records p.persons p.start;
  }

  asked-there : generated_asked p ≡ Ok (sum_of p census script)
  asked-there = rw (schema-there, table-there, people-there, script-there) refl

  -- so a run over them ends before its task only where memory runs out
  pub accepted-made : {A : Type 0} (view : A → AskedValue) (result : Result A End) → Makes view (generated_asked p) result
      → IfErr result (λ e. e ≡ end.Memory)
  accepted-made view (Ok x) made = tt
  accepted-made view (Err e) made = memory-alone e (λ other.
      let bad : Ok (sum_of p census script) ≡ Err e = sym asked-there ∙ made.2 other in cc)

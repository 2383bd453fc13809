-- How a step that reads some of a run's files may go.
use Rattle.std.specs.Prelude.{◌≡◌, ◌≢◌, ◌≤◌, ℕ, true, List, [], ◌∷◌, IfErr, IfSome, Option, Result, Ok, Err, length}
use Rattle.tb_base.specs.Records.{AllFit}
use Rattle.tb_base.specs.declared.status.Status.TheVariants as status
use Rattle.tb_io.specs.Faults.{HasRisen}
use Rattle.tb_model.specs.Releases.{ReleaseValue, first_release}
use Rattle.tb_model.specs.Schemas.{shape_of}
use Rattle.tb_endings.specs.declared.endings.Input.{Input}
use Rattle.tb_endings.specs.declared.endings.End.{End}
use Rattle.tb_endings.specs.declared.endings.End.TheVariants as end
use Rattle.tb_endings.specs.Endings.{status_of}
use Rattle.tb_top.specs.declared.asked.Asked.{Asked}
use Rattle.tb_top.specs.declared.asked.Census.{Census}
use Rattle.tb_top.specs.declared.asked.Scripted.{Scripted}
use Rattle.tb_script.specs.Scripts.{ScriptValue}
use Rattle.tb_top.specs.Asking.{AskedValue, CensusValue, Contents, asked_with, census_over, contents_for, input_place}
use Rattle.tb_top.specs.Calls.{IsReadTo, readings_more}
use Rattle.tb_top.specs.InputFiles.{NamedFile, have_dwellings}

-- what a step saw of the files: what stands under each name, the count of faults, and how many
-- readings there were, before and after
pub record Reading : Type 0 where
  pub content : Option (List ℕ → Option (List ℕ))
  pub content_after : Option (List ℕ → Option (List ℕ))
  pub faults : ℕ
  pub faults_after : ℕ
  pub readings : Option ℕ
  pub readings_after : Option ℕ

-- the same of files by their ghost members, before and after a step
abbrev pub reading : {F : Type 0} → (F → Option (List ℕ → Option (List ℕ))) → (F → ℕ)
    → (F → Option ℕ) → F → F → Reading
reading content faults readings files files' = record {
  content = content files;
  content_after = content files';
  faults = faults files;
  faults_after = faults files';
  readings = readings files;
  readings_after = readings files';
}

-- the contents hold what stands under the names of these files
abbrev pub Hold : (List ℕ → Option (List ℕ)) → List NamedFile → Contents → Type 0
Hold at [] contents = Unit {0}
Hold at (file ∷ files) contents =
    (contents file.input ≡ at file.name) × Hold at files contents

-- what a step gives, seen by `view`, is what is defined over the contents; so is an end other than
-- Memory, over the contents without the file that couldn't be read
abbrev pub Gives : {A B : Type 0} → (A → B) → (Contents → Result B End) → Contents → Result A End
    → Type 0
Gives view defined contents (Ok x) = defined contents ≡ Ok (view x)
Gives view defined contents (Err e) = e ≢ end.Memory → defined (contents_for e contents) ≡ Err e

-- an end with the status of dwellings comes only where these files have some
abbrev pub IsWithUnits : List NamedFile → End → Type 0
IsWithUnits files e = status_of e ≡ status.Units → have_dwellings files ≡ true

-- a step over these files, all of which have that place or a later one
pub record Loads {A B : Type 0} (saw : Reading) (place : ℕ) (files : List NamedFile) (view : A → B)
    (defined : Contents → Result B End) (result : Result A End) : Type 0 where
  pub usage : result ≢ Err end.Usage
  pub count : saw.faults ≤ saw.faults_after
  pub same : saw.content_after ≡ saw.content
  pub gives : IfSome saw.content (λ at.
      (contents : Contents) → Hold at files contents → Gives view defined contents result)
  -- it ends at a reading only where that failed, which was the last, at a file of the step
  pub risen : (file : Input) → result ≡ Err (end.Unread file) → HasRisen saw.faults saw.faults_after
  pub within : (file : Input) → result ≡ Err (end.Unread file) → place ≤ input_place file
  pub last : (file : Input) → result ≡ Err (end.Unread file)
      → IsReadTo files file saw.readings saw.readings_after
  pub units : IfErr result (IsWithUnits files)
  -- else each of its files was read once
  pub all : (x : A) → result ≡ Ok x
      → saw.readings_after ≡ readings_more (length files) saw.readings

-- what a step that reads no file gives, seen by `view`, is what is defined; so is an end other than
-- Memory
abbrev pub Makes : {A B : Type 0} → (A → B) → Result B End → Result A End → Type 0
Makes view defined (Ok x) = defined ≡ Ok (view x)
Makes view defined (Err e) =
    (e ≢ end.Usage) × ((file : Input) → e ≢ end.Unread file) × (e ≢ end.Memory → defined ≡ Err e)

-- a census, a script over it, and what is asked for, as the definitions see them
abbrev pub census_value : Census → CensusValue
census_value c = census_over c.setup c.release

abbrev pub scripted_value : Scripted → CensusValue × ScriptValue
scripted_value read = (census_value read.census, read.script)

abbrev pub asked_value : Asked → AskedValue
asked_value asked = asked_with (census_value asked.census) asked.owner asked.lines

-- a release is release 0 of its records, with its limit, its threshold and no other rules
abbrev pub IsBase : ReleaseValue → Type 0
IsBase base = base ≡ first_release base.most base.rules.threshold base.records

-- a census begins at release 0 of its records, which fit its schema
abbrev pub IsFirst : Census → Type 0
IsFirst c =
    IsBase c.release × AllFit (shape_of c.setup.schema) c.release.records

-- so does what is asked for
abbrev pub AskedIsFirst : Asked → Type 0
AskedIsFirst asked = IsFirst asked.census

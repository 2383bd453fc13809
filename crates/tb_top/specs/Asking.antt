-- What the arguments and the files ask for: a task over a census; or why the run ends before it
-- begins.
use Rattle.std.specs.Prelude.{◌==◌, ◌+◌, ℕ, Bool, true, false, List, [], ◌∷◌, length, Option, Some, None, Result, Ok, Err, is_some, ok_or, nat_le, nat_lt, if◌then◌else◌}
use Rattle.tb_base.specs.declared.records.Record.{Record}
use Rattle.tb_base.specs.declared.keys.Keys.{Keys}
use Rattle.tb_model.specs.Releases.{ReleaseValue, first_release}
use Rattle.tb_model.specs.Schemas.{SchemaValue}
use Rattle.tb_model.specs.Setups.{SetupValue}
use Rattle.tb_ptable.specs.FaultNames.{fault_name as ptable_name}
use Rattle.tb_ptable.specs.Lines.{perturbation_of}
use Rattle.tb_ptable.specs.Table.{TableValue}
use Rattle.tb_records.specs.FaultNames.{fault_name as people_name}
use Rattle.tb_records.specs.People.{people_of}
use Rattle.tb_schema.specs.Recodes.{schema_of}
use Rattle.tb_script.specs.Scripts.{ScriptValue, script_of}
use Rattle.tb_model.specs.Units.{UnitsValue}
use Rattle.tb_units.specs.Units.{units_of}
use Rattle.tb_endings.specs.Refusals.{file_end, schema_end, units_end}
use Rattle.tb_endings.specs.declared.endings.Input.{Input}
use Rattle.tb_endings.specs.declared.endings.Input.TheVariants as input
use Rattle.tb_endings.specs.declared.endings.End.{End}
use Rattle.tb_endings.specs.declared.endings.End.TheVariants as end
use Rattle.tb_top.specs.declared.asked.AskedLines.{AskedLines}
use Rattle.tb_top.specs.declared.asked.AskedLines.TheVariants as lines
use Rattle.tb_top.specs.declared.load.TheConstants.{LARGE_BYTES, MOST_BYTES}
use Rattle.tb_schema.specs.declared.limits.TheConstants.{MOST_UNSTATED}
use Rattle.tb_script.specs.declared.limits.TheConstants.{MOST_SCRIPT_BYTES}
use Rattle.tb_command.specs.declared.command.Command.{Command}
use Rattle.tb_command.specs.declared.command.Command.TheVariants as command
use Rattle.tb_command.specs.declared.command.Inputs.{Inputs}
use Rattle.tb_command.specs.declared.command.Lines.{Lines}
use Rattle.tb_command.specs.declared.command.Lines.TheVariants as named_lines
use Rattle.tb_command.specs.declared.command.Owner.{Owner}
use Rattle.tb_command.specs.declared.command.Owner.TheVariants as owner
use Rattle.tb_command.specs.declared.command.Task.{Task}
use Rattle.tb_command.specs.declared.command.UnitFiles.{UnitFiles}
use Rattle.tb_command.specs.Commands.{command_of, owner_journal}
use Rattle.tb_top.specs.InputFiles.{NamedFile, command_files}
use Rattle.tb_top.specs.GeneratedFiles.{generated_contents, generated_inputs}
use Rattle.tb_command.specs.Populations.{Population}

-- what the files hold: the bytes of each, where it is there
abbrev pub Contents : Type 0
Contents = Input → Option (List ℕ)

-- one step after another, of which the first that ends the run decides
infixl 10 ◌>>=◌
abbrev pub ◌>>=◌ : {A B : Type 0} → Result A End → (A → Result B End) → Result B End
(Ok x) >>= next = next x
(Err e) >>= next = Err e

-- the most bytes that a file may have; a census's may have more (`census_bytes`)
abbrev pub most_bytes : Input → ℕ
most_bytes input.Classes = MOST_BYTES
most_bytes input.Recodes = MOST_BYTES
most_bytes input.Ptable = MOST_BYTES
most_bytes input.People = MOST_BYTES
most_bytes input.Dwellings = MOST_BYTES
most_bytes input.Links = MOST_BYTES
most_bytes input.Script = MOST_SCRIPT_BYTES

-- the most bytes that one of a census's files may have, its persons, dwellings or links: more where
-- the classification bounds the persons above what it does unstated
abbrev pub census_bytes : SchemaValue → ℕ
census_bytes schema = if nat_le schema.persons MOST_UNSTATED then MOST_BYTES else LARGE_BYTES

-- the bytes of a file, which may not be there or have more than so many
abbrev pub bytes_within : ℕ → Input → Option (List ℕ) → Result (List ℕ) End
bytes_within most file None = Err (end.Unread file)
bytes_within most file (Some bytes) =
    if nat_lt most (length bytes) then Err (end.TooLong file) else Ok bytes

-- the bytes of a file, and those of one of a census's
abbrev pub bytes_in : Input → Option (List ℕ) → Result (List ℕ) End
bytes_in file bytes = bytes_within (most_bytes file) file bytes

abbrev pub census_bytes_in : SchemaValue → Input → Option (List ℕ) → Result (List ℕ) End
census_bytes_in schema file bytes = bytes_within (census_bytes schema) file bytes

-- what a reader gives, or the end for what it refuses
abbrev pub or_end : {A E : Type 0} → (E → End) → Result A E → Result A End
or_end ending (Ok x) = Ok x
or_end ending (Err e) = Err (ending e)

-- the bytes of the recodes, where the command names them
abbrev pub recodes_in : Option (List ℕ) → Contents → Result (Option (List ℕ)) End
recodes_in None contents = Ok None
recodes_in (Some name) contents =
    bytes_in input.Recodes (contents input.Recodes) >>= (λ bytes. Ok (Some bytes))

-- the classification and the recodes are both read before either is checked
abbrev pub schema_in : Option (List ℕ) → Contents → Result SchemaValue End
schema_in recodes contents =
    bytes_in input.Classes (contents input.Classes) >>= (λ classes.
    recodes_in recodes contents >>= (λ recodes.
    or_end schema_end (schema_of classes recodes)))

-- each other file is checked before the next is read
abbrev pub perturbation_in : Keys → Contents → Result TableValue End
perturbation_in keys contents =
    bytes_in input.Ptable (contents input.Ptable) >>= (λ bytes.
    or_end (file_end input.Ptable ptable_name) (perturbation_of keys bytes))

abbrev pub people_in : SchemaValue → Contents → Result (List Record) End
people_in schema contents =
    census_bytes_in schema input.People (contents input.People) >>= (λ bytes.
    or_end (file_end input.People people_name) (people_of schema bytes))

abbrev pub script_in : Contents → Result ScriptValue End
script_in contents =
    bytes_in input.Script (contents input.Script) >>= (λ bytes.
    or_end end.BadLine (script_of bytes))

-- a census: the setup, the limit and the threshold of release 0 and the microdata's records
pub record CensusValue : Type 0 where
  pub setup : SetupValue
  pub most : ℕ
  pub threshold : ℕ
  pub records : List Record

-- release 0 of a census
abbrev pub base_of : CensusValue → ReleaseValue
base_of census = first_release census.most census.threshold census.records

-- the census of a setup and its release 0
abbrev pub census_over : SetupValue → ReleaseValue → CensusValue
census_over setup base =
    record {
      setup = setup;
      most = base.most;
      threshold = base.rules.threshold;
      records = base.records;
    }

-- the setup of a classification, without dwellings
abbrev pub setup_over : SchemaValue → Contents → Result SetupValue End
setup_over schema contents =
    perturbation_in schema.keys contents >>= (λ table.
    Ok (record { schema = schema; lines = table.lines; units = None }))

-- the setup that the files hold, without dwellings
abbrev pub setup_in : Inputs → Contents → Result SetupValue End
setup_in inputs contents =
    schema_in inputs.recodes contents >>= (λ schema. setup_over schema contents)

-- release 0 of the microdata that the files hold
abbrev pub base_in : Inputs → SchemaValue → Contents → Result ReleaseValue End
base_in inputs schema contents =
    people_in schema contents >>= (λ records.
    Ok (first_release schema.persons inputs.threshold records))

-- the census of a setup
abbrev pub people_added : Inputs → SetupValue → Contents → Result CensusValue End
people_added inputs setup contents =
    base_in inputs setup.schema contents >>= (λ base. Ok (census_over setup base))

-- what the files of inputs hold
abbrev pub census_in : Inputs → Contents → Result CensusValue End
census_in inputs contents =
    setup_in inputs contents >>= (λ setup. people_added inputs setup contents)

-- the dwellings and the links are both read before either is checked
abbrev pub units_in : SchemaValue → Contents → Result UnitsValue End
units_in schema contents =
    census_bytes_in schema input.Dwellings (contents input.Dwellings) >>= (λ dwellings.
    census_bytes_in schema input.Links (contents input.Links) >>= (λ links.
    or_end units_end (units_of schema.persons schema.keys dwellings links)))

-- a census with these dwellings
abbrev pub with_units : CensusValue → UnitsValue → CensusValue
with_units census units =
    record census { setup = record census.setup { units = Some units } }

-- a census with the dwellings that the files hold
abbrev pub units_added : CensusValue → Contents → Result CensusValue End
units_added census contents =
    units_in census.setup.schema contents >>= (λ units. Ok (with_units census units))

-- what the files of inputs hold, with dwellings
abbrev pub counted_in : Inputs → Contents → Result CensusValue End
counted_in inputs contents =
    census_in inputs contents >>= (λ census. units_added census contents)

-- the census that the files hold, with the dwellings that are named, if any are
abbrev pub census_of : Inputs → Option UnitFiles → Contents → Result CensusValue End
census_of inputs None contents = census_in inputs contents
census_of inputs (Some files) contents = counted_in inputs contents

-- what is asked for over a census: who owns the chain, and which lines are answered: those of a
-- script, one after another or its lanes at the same time, those that come at ports, or, over a
-- generated population, those of its script, whose replies are summed up
pub record AskedValue : Type 0 where
  pub census : CensusValue
  pub owner : Owner
  pub lines : AskedLines

abbrev pub asked_with : CensusValue → Owner → AskedLines → AskedValue
asked_with census owner lines = record { census = census; owner = owner; lines = lines }

-- whether lines come at ports
abbrev pub come_at_ports : AskedLines → Bool
come_at_ports (lines.Script script) = false
come_at_ports (lines.Lanes script) = false
come_at_ports (lines.Ports service) = true
come_at_ports (lines.Sums population script) = false

-- how many ports they take
abbrev pub ports_taken : AskedLines → ℕ
ports_taken (lines.Script script) = 0
ports_taken (lines.Lanes script) = 0
ports_taken (lines.Ports service) = service.workers + 1
ports_taken (lines.Sums population script) = 0

-- whether it is sessions
abbrev pub is_service : AskedValue → Bool
is_service asked = come_at_ports asked.lines

-- whether it is replies, or sessions, with a journal
abbrev pub is_keep : AskedValue → Bool
is_keep asked = is_some (owner_journal asked.owner)

-- the lines of a task, where they come from a script that the files hold
abbrev pub lines_over : Lines → Contents → Result AskedLines End
lines_over (named_lines.Script name) contents =
    script_in contents >>= (λ script. Ok (lines.Script script))
lines_over (named_lines.Lanes name) contents =
    script_in contents >>= (λ script. Ok (lines.Lanes script))
lines_over (named_lines.Ports service) contents = Ok (lines.Ports service)

-- what a task asks for over a census
abbrev pub asked_after : Task → CensusValue → Contents → Result AskedValue End
asked_after task census contents =
    lines_over task.lines contents >>= (λ lines. Ok (asked_with census task.owner lines))

-- what a task asks for over what its files hold
abbrev pub task_over : Task → Contents → Result AskedValue End
task_over task contents =
    census_of task.inputs task.units contents >>= (λ census. asked_after task census contents)

-- the census and the script that the files hold
abbrev pub scripted_in : Inputs → Contents → Result (CensusValue × ScriptValue) End
scripted_in inputs contents =
    census_in inputs contents >>= (λ census.
    script_in contents >>= (λ script. Ok (census, script)))

-- a custodian's replies to it, to be summed up
abbrev pub sums_over : Population → Inputs → Contents → Result AskedValue End
sums_over population inputs contents =
    scripted_in inputs contents >>= (λ read.
    Ok (asked_with read.0 owner.Custodian (lines.Sums population read.1)))

-- what a generated population asks for: what a script would over the generated files
abbrev pub generated_asked : Population → Result AskedValue End
generated_asked population =
    sums_over population generated_inputs (generated_contents population)

-- what a command asks for over what its files hold
abbrev pub asked_over : Command → Contents → Result AskedValue End
asked_over (command.Over task) contents = task_over task contents
asked_over (command.Gen population) contents = generated_asked population

-- the place of a file in the order of reading
abbrev pub input_place : Input → ℕ
input_place input.Classes = 0
input_place input.Recodes = 1
input_place input.Ptable = 2
input_place input.People = 3
input_place input.Dwellings = 4
input_place input.Links = 5
input_place input.Script = 6

-- what these files hold, where `at` tells what stands under a name
abbrev pub contents_at : (List ℕ → Option (List ℕ)) → List NamedFile → Contents
contents_at at [] other = None
contents_at at (file ∷ files) other =
    if input_place file.input == input_place other then at file.name else contents_at at files other

-- the same contents, but for one file that isn't there
abbrev pub without : Input → Contents → Contents
without file contents other = if input_place file == input_place other then None else contents other

-- the contents for which a run ends so: where a file couldn't be read, those without it
abbrev pub contents_for : End → Contents → Contents
contents_for (end.Unread file) contents = without file contents
contents_for end.Usage contents = contents
contents_for (end.TooLong file) contents = contents
contents_for (end.Refused file name at) contents = contents
contents_for (end.BadLine at) contents = contents
contents_for end.Memory contents = contents

-- what the arguments ask for over these contents
abbrev pub asked_by : (Command → Contents) → List (List ℕ) → Result AskedValue End
asked_by contents words =
    ok_or (command_of words) end.Usage >>= (λ c. asked_over c (contents c))

-- what the arguments and the files ask for
abbrev pub asked_of : (List ℕ → Option (List ℕ)) → List (List ℕ) → Result AskedValue End
asked_of at words = asked_by (λ c. contents_at at (command_files c)) words

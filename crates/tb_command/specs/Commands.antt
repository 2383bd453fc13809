-- What the arguments ask for: each is read by its place, and one that isn't there is the empty word,
-- which no rule takes.
use Rattle.std.specs.Prelude.{ℕ, ◌==◌, ◌&&◌, ◌+◌, Bool, true, false, List, length, Option, Some, None, is_some, option_map, option_and_then, bytes_eq, codes, if◌then◌else◌}
use Rattle.tb_base.specs.declared.limits.TheConstants.{MOST_THRESHOLD}
use Rattle.tb_command.specs.Forms.{FormValue, end_place, form_in, forms, lines_place, owner_place}
use Rattle.tb_command.specs.Names.{file_named, file_or_dash, is_dash, word_at}
use Rattle.tb_command.specs.Numbers.{number_within}
use Rattle.tb_command.specs.Populations.{Population, population_named}
use Rattle.tb_command.specs.ServicePorts.{Service, service_named}
use Rattle.tb_command.specs.declared.command.Command.{Command}
use Rattle.tb_command.specs.declared.command.Command.TheVariants as command
use Rattle.tb_command.specs.declared.command.Inputs.{Inputs}
use Rattle.tb_command.specs.declared.command.Lines.{Lines}
use Rattle.tb_command.specs.declared.command.Lines.TheVariants as lines
use Rattle.tb_command.specs.declared.command.Owner.{Owner}
use Rattle.tb_command.specs.declared.command.Owner.TheVariants as owner
use Rattle.tb_command.specs.declared.command.Task.{Task}
use Rattle.tb_command.specs.declared.command.UnitFiles.{UnitFiles}
use Rattle.tb_command.specs.declared.forms.Dwellings.{Dwellings}
use Rattle.tb_command.specs.declared.forms.Dwellings.TheVariants as dwellings
use Rattle.tb_command.specs.declared.forms.LinesFrom.{LinesFrom}
use Rattle.tb_command.specs.declared.forms.LinesFrom.TheVariants as lines_from
use Rattle.tb_command.specs.declared.forms.OwnedBy.{OwnedBy}
use Rattle.tb_command.specs.declared.forms.OwnedBy.TheVariants as owned_by

-- the inputs that the arguments 1 to 5 name, `CLASSES RECODES PTABLE PEOPLE THRESHOLD`
abbrev pub inputs_in : List (List ℕ) → Option Inputs
inputs_in words =
    option_and_then (λ classes. option_and_then (λ recodes. option_and_then (λ ptable.
    option_and_then (λ people. option_map (λ threshold. record {
      classes = classes;
      recodes = recodes;
      ptable = ptable;
      people = people;
      threshold = threshold;
    }) (number_within 0 MOST_THRESHOLD (word_at words 5)))
    (file_named (word_at words 4))) (file_named (word_at words 3)))
    (file_or_dash (word_at words 2))) (file_named (word_at words 1))

-- the files of dwellings that the arguments 6 and 7 name, `DWELLINGS LINKS`
abbrev pub unit_files_in : List (List ℕ) → Option UnitFiles
unit_files_in words =
    option_and_then (λ dwellings. option_map (λ links.
    record { dwellings = dwellings; links = links }) (file_named (word_at words 7)))
    (file_named (word_at words 6))

-- the files of dwellings, if any are named: `-` stands for none in both places or in neither
abbrev pub units_in : Dwellings → List (List ℕ) → Option (Option UnitFiles)
units_in dwellings.Never words = Some None
units_in dwellings.Always words = option_map Some (unit_files_in words)
units_in dwellings.OrDashes words =
    if is_dash (word_at words 6) && is_dash (word_at words 7) then Some None
    else option_map Some (unit_files_in words)

-- the owner of the chain, whose argument is a journal's name where there is one
abbrev pub owner_in : OwnedBy → List ℕ → Option Owner
owner_in owned_by.Custodian word = Some owner.Custodian
owner_in owned_by.Journal word = option_map owner.Journal (file_named word)
owner_in owned_by.Leader word = Some owner.Leader

-- where lines come from, by the arguments from a place on: a script, or `PORT WORKERS SESSIONS`
abbrev pub lines_in : LinesFrom → List (List ℕ) → ℕ → Option Lines
lines_in lines_from.Script words i = option_map lines.Script (file_named (word_at words i))
lines_in lines_from.Lanes words i = option_map lines.Lanes (file_named (word_at words i))
lines_in (lines_from.Ports kind) words i =
    option_map lines.Ports
    (service_named kind (word_at words i) (word_at words (i + 1)) (word_at words (i + 2)))

-- the task that a row of the table asks for
abbrev pub task_in : FormValue → List (List ℕ) → Option Task
task_in form words =
    if length words == end_place form
    then option_and_then (λ inputs. option_and_then (λ units. option_and_then (λ owner.
    option_map (λ lines.
    record { inputs = inputs; units = units; owner = owner; lines = lines })
    (lines_in form.lines words (lines_place form)))
    (owner_in form.owner (word_at words (owner_place form)))) (units_in form.dwellings words))
    (inputs_in words)
    else None

-- the population that `gen N START` asks for
abbrev pub gen_in : List (List ℕ) → Option Population
gen_in words =
    if length words == 3 then population_named (word_at words 1) (word_at words 2) else None

-- what the arguments ask for; others than those of a command ask for nothing
abbrev pub command_of : List (List ℕ) → Option Command
command_of words =
    if bytes_eq (word_at words 0) (codes "gen") then option_map command.Gen (gen_in words)
    else option_and_then (λ form. option_map command.Over (task_in form words))
    (form_in forms (word_at words 0))

-- the service that a command asks for, where lines come from ports
abbrev pub ports_service : Lines → Option Service
ports_service (lines.Ports service) = Some service
ports_service (lines.Script name) = None
ports_service (lines.Lanes name) = None

abbrev pub service_of : Command → Option Service
service_of (command.Over task) = ports_service task.lines
service_of (command.Gen population) = None

-- how many ports a service takes: the first, and one for each worker
abbrev pub ports_for : Option Service → ℕ
ports_for None = 0
ports_for (Some service) = service.workers + 1

-- how many are asked for
abbrev pub ports_asked : Option Command → ℕ
ports_asked asked = ports_for (option_and_then service_of asked)

-- the name of the journal's file, where it has one
abbrev pub owner_journal : Owner → Option (List ℕ)
owner_journal (owner.Journal name) = Some name
owner_journal owner.Custodian = None
owner_journal owner.Leader = None

abbrev pub journal_of : Command → Option (List ℕ)
journal_of (command.Over task) = owner_journal task.owner
journal_of (command.Gen population) = None

-- whether sessions are asked for
abbrev pub asks_to_serve : Option Command → Bool
asks_to_serve asked = is_some (option_and_then service_of asked)

-- whether a journal is to be kept
abbrev pub asks_to_keep : Option Command → Bool
asks_to_keep asked = is_some (option_and_then journal_of asked)

-- whether a generated population is asked for
abbrev pub asks_to_generate : Option Command → Bool
asks_to_generate (Some (command.Gen population)) = true
asks_to_generate (Some (command.Over task)) = false
asks_to_generate None = false

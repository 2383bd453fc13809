-- The files of a command, in the order in which they are read.
use Rattle.std.specs.Prelude.{ℕ, Bool, true, false, List, [], ◌∷◌, ◌++◌, ◌||◌, Option, Some, None}
use Rattle.std.specs.Prelude.{is_some, option_and_then}
use Rattle.tb_command.specs.declared.command.Command.{Command}
use Rattle.tb_command.specs.declared.command.Command.TheVariants as command
use Rattle.tb_command.specs.declared.command.Inputs.{Inputs}
use Rattle.tb_command.specs.declared.command.Lines.{Lines}
use Rattle.tb_command.specs.declared.command.Lines.TheVariants as lines
use Rattle.tb_command.specs.declared.command.Task.{Task}
use Rattle.tb_command.specs.declared.command.UnitFiles.{UnitFiles}
use Rattle.tb_endings.specs.declared.endings.Input.{Input}
use Rattle.tb_endings.specs.declared.endings.Input.TheVariants as input

-- an input and the name of its file
pub record NamedFile : Type 0 where
  pub input : Input
  pub name : List ℕ

abbrev pub named : Input → List ℕ → NamedFile
named i n = record { input = i; name = n }

-- the recodes, where they are named
abbrev pub recodes_files : Option (List ℕ) → List NamedFile
recodes_files None = []
recodes_files (Some name) = named input.Recodes name ∷ []

-- the files of a classification and its recodes
abbrev pub class_files : Inputs → List NamedFile
class_files inputs = (named input.Classes inputs.classes ∷ []) ++ recodes_files inputs.recodes

-- those of a setup without dwellings
abbrev pub setup_files : Inputs → List NamedFile
setup_files inputs = class_files inputs ++ (named input.Ptable inputs.ptable ∷ [])

-- those of all inputs
abbrev pub input_files : Inputs → List NamedFile
input_files inputs = setup_files inputs ++ (named input.People inputs.people ∷ [])

-- those of dwellings and links, where they are named
abbrev pub unit_files : Option UnitFiles → List NamedFile
unit_files None = []
unit_files (Some files) = named input.Dwellings files.dwellings ∷ named input.Links files.links ∷ []

-- that of a script
abbrev pub script_files : List ℕ → List NamedFile
script_files name = named input.Script name ∷ []

-- that of the lines, where they come from a script
abbrev pub lines_files : Lines → List NamedFile
lines_files (lines.Script name) = script_files name
lines_files (lines.Lanes name) = script_files name
lines_files (lines.Ports service) = []

-- those of all inputs and a script
abbrev pub scripted_files : Inputs → List ℕ → List NamedFile
scripted_files inputs script = input_files inputs ++ script_files script

-- those of all inputs, with dwellings where they are named
abbrev pub counted_files : Inputs → Option UnitFiles → List NamedFile
counted_files inputs units = input_files inputs ++ unit_files units

abbrev pub task_files : Task → List NamedFile
task_files task = counted_files task.inputs task.units ++ lines_files task.lines

-- whether there is a file of dwellings or of links among some files
abbrev pub is_of_dwellings : Input → Bool
is_of_dwellings input.Classes = false
is_of_dwellings input.Recodes = false
is_of_dwellings input.Ptable = false
is_of_dwellings input.People = false
is_of_dwellings input.Dwellings = true
is_of_dwellings input.Links = true
is_of_dwellings input.Script = false

abbrev pub have_dwellings : List NamedFile → Bool
have_dwellings [] = false
have_dwellings (file ∷ files) = is_of_dwellings file.input || have_dwellings files

-- whether dwellings are asked for
abbrev pub dwellings_of : Command → Option UnitFiles
dwellings_of (command.Over task) = task.units
dwellings_of (command.Gen population) = None

abbrev pub asks_for_dwellings : Option Command → Bool
asks_for_dwellings asked = is_some (option_and_then dwellings_of asked)

-- a journal isn't read like them, and a generated population has none
abbrev pub command_files : Command → List NamedFile
command_files (command.Over task) = task_files task
command_files (command.Gen population) = []

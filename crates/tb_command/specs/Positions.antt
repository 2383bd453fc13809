-- The names of the positions of each command, group by group.
use Rattle.std.specs.Prelude.{ℕ, List, [], ◌∷◌, ◌++◌, codes}
use Rattle.tb_command.specs.Forms.{FormValue}
use Rattle.tb_command.specs.declared.forms.Dwellings.{Dwellings}
use Rattle.tb_command.specs.declared.forms.Dwellings.TheVariants as dwellings
use Rattle.tb_command.specs.declared.forms.LinesFrom.{LinesFrom}
use Rattle.tb_command.specs.declared.forms.LinesFrom.TheVariants as lines_from
use Rattle.tb_command.specs.declared.forms.OwnedBy.{OwnedBy}
use Rattle.tb_command.specs.declared.forms.OwnedBy.TheVariants as owned_by

abbrev pub inputs_positions : List (List ℕ)
inputs_positions =
    codes "CLASSES" ∷ codes "RECODES" ∷ codes "PTABLE" ∷ codes "PEOPLE" ∷ codes "THRESHOLD" ∷ []

abbrev pub dwellings_positions : Dwellings → List (List ℕ)
dwellings_positions dwellings.Never = []
dwellings_positions dwellings.Always = codes "DWELLINGS" ∷ codes "LINKS" ∷ []
dwellings_positions dwellings.OrDashes = codes "DWELLINGS" ∷ codes "LINKS" ∷ []

abbrev pub owner_positions : OwnedBy → List (List ℕ)
owner_positions owned_by.Custodian = []
owner_positions owned_by.Journal = codes "JOURNAL" ∷ []
owner_positions owned_by.Leader = []

abbrev pub lines_positions : LinesFrom → List (List ℕ)
lines_positions lines_from.Script = codes "SCRIPT" ∷ []
lines_positions lines_from.Lanes = codes "SCRIPT" ∷ []
lines_positions (lines_from.Ports kind) = codes "PORT" ∷ codes "WORKERS" ∷ codes "SESSIONS" ∷ []

-- those of a row, one group after another
abbrev pub positions_of : FormValue → List (List ℕ)
positions_of f =
    inputs_positions ++ dwellings_positions f.dwellings ++ owner_positions f.owner
    ++ lines_positions f.lines

abbrev pub gen_positions : List (List ℕ)
gen_positions = codes "N" ∷ codes "START" ∷ []

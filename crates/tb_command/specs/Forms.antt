-- The table of the commands: each row says who owns the chain, where lines come from, and whether
-- dwellings are named. `gen`, which reads no files, stands apart.
use Rattle.std.specs.Prelude.{ℕ, ◌+◌, List, [], ◌∷◌, ◌++◌, length, Option, Some, None, bytes_eq, codes, if◌then◌else◌}
use Rattle.tb_command.specs.declared.forms.Dwellings.{Dwellings}
use Rattle.tb_command.specs.declared.forms.Dwellings.TheVariants as dwellings
use Rattle.tb_command.specs.declared.forms.Form.{Form}
use Rattle.tb_command.specs.declared.forms.LinesFrom.{LinesFrom}
use Rattle.tb_command.specs.declared.forms.LinesFrom.TheVariants as lines_from
use Rattle.tb_command.specs.declared.forms.OwnedBy.{OwnedBy}
use Rattle.tb_command.specs.declared.forms.OwnedBy.TheVariants as owned_by
use Rattle.tb_command.specs.declared.service.Layout.TheVariants as layout

-- a row: the command's name, who owns the chain, where lines come from, and whether dwellings are
-- named
pub record FormValue : Type 0 where
  pub name : List ℕ
  pub owner : OwnedBy
  pub lines : LinesFrom
  pub dwellings : Dwellings

abbrev pub row : List ℕ → OwnedBy → LinesFrom → Dwellings → FormValue
row name owner lines dwellings =
    record { name = name; owner = owner; lines = lines; dwellings = dwellings }

-- a row of the program, as the definitions see it
abbrev pub form_value : Form → FormValue
form_value f = row f.name.now f.owner f.lines f.dwellings

-- the table: what it doesn't have is no command, but for `gen`
abbrev pub forms : List FormValue
forms =
    row (codes "script") owned_by.Custodian lines_from.Script dwellings.Never
    ∷ row (codes "lanes") owned_by.Custodian lines_from.Lanes dwellings.Never
    ∷ row (codes "keep") owned_by.Journal lines_from.Script dwellings.Never
    ∷ row (codes "follow") owned_by.Leader lines_from.Script dwellings.Never
    ∷ row (codes "units") owned_by.Custodian lines_from.Script dwellings.Always
    ∷ row (codes "host") owned_by.Journal (lines_from.Ports layout.Door) dwellings.OrDashes
    ∷ row (codes "mirror") owned_by.Leader (lines_from.Ports layout.Door) dwellings.OrDashes
    ∷ row (codes "serve") owned_by.Custodian (lines_from.Ports layout.Row) dwellings.Never
    ∷ []

-- the first of some rows with a name
abbrev pub form_in : List FormValue → List ℕ → Option FormValue
form_in [] name = None
form_in (f ∷ rows) name = if bytes_eq f.name name then Some f else form_in rows name

-- the place of the journal's name, where there is one: behind the inputs, at 1 to 5, and DWELLINGS
-- and LINKS, at 6 and 7, where they are named
abbrev pub owner_place : FormValue → ℕ
owner_place f = after f.dwellings
  where
    after : Dwellings → ℕ
    after dwellings.Never = 6
    after dwellings.Always = 8
    after dwellings.OrDashes = 8

-- the place of the first word that says where lines come from
abbrev pub lines_place : FormValue → ℕ
lines_place f = after f.owner (owner_place f)
  where
    after : OwnedBy → ℕ → ℕ
    after owned_by.Custodian i = i
    after owned_by.Leader i = i
    after owned_by.Journal i = i + 1

-- how many words there are, the command's name among them
abbrev pub end_place : FormValue → ℕ
end_place f = after f.lines (lines_place f)
  where
    after : LinesFrom → ℕ → ℕ
    after lines_from.Script i = i + 1
    after lines_from.Lanes i = i + 1
    after (lines_from.Ports kind) i = i + 3

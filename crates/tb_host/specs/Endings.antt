-- What a server that keeps a journal writes at its end.
use Rattle.std.specs.Prelude.{◌++◌, ℕ, Bool, true, false, List, codes}
use Rattle.tb_base.specs.declared.status.Status.{Status}
use Rattle.tb_base.specs.declared.status.Status.TheVariants as status
use Rattle.tb_serve.specs.Ports.{PortValue}
use Rattle.tb_serve.specs.Reports.{lines_at, release_line, report}
use Rattle.tb_serve.specs.Serves.{IsEnded, Output, final_status}
use Rattle.tb_serve.specs.declared.places.Places.{Places}

-- the last line where the disk failed
abbrev pub disk_line : List ℕ
disk_line = codes "fault disk\n"

-- the lines after those of the ports, where the journal isn't live at the end
abbrev pub disk_closing : ℕ → List ℕ
disk_closing release = release_line release ++ disk_line

-- the whole report then
abbrev pub disk_report : Places → List PortValue → ℕ → List ℕ
disk_report places ports release = lines_at places ports ++ disk_closing release

-- the report of ports that were served up to a release was written, by whether the journal is live
abbrev pub IsHostReported : Bool → Places → List PortValue → ℕ → Output → Status → Type 0
IsHostReported true places ports release out ended =
    IsEnded (report places ports release) (final_status ports) out ended
IsHostReported false places ports release out ended =
    IsEnded (disk_report places ports release) status.DiskFault out ended

-- What is written once the workers of a call ended.
use Rattle.std.specs.Prelude.{ℕ, ◌+◌, Bool, List, [], ◌∷◌, ◌++◌, codes, decimal, if◌then◌else◌}
use Rattle.std.specs.List.{concat, list_any}
use Rattle.tb_serve.specs.Ports.{PortValue}
use Rattle.tb_serve.specs.declared.places.Places.{Places}
use Rattle.tb_serve.specs.declared.places.Places.TheVariants as place

-- the line of a worker: its number, and how many sessions it served
abbrev pub worker_line : ℕ → ℕ → List ℕ
worker_line i served =
    codes "worker " ++ decimal i ++ codes " sessions " ++ decimal served ++ codes "\n"

-- the lines of the workers of some ports, from a number on
abbrev pub worker_lines : ℕ → List PortValue → List (List ℕ)
worker_lines i [] = []
worker_lines i (port ∷ ports) = worker_line i port.served ∷ worker_lines (i + 1) ports

-- how many sessions were served at some ports together
abbrev pub served_at : List PortValue → ℕ
served_at [] = 0
served_at (port ∷ ports) = port.served + served_at ports

-- the line of a port of the system: its number, and how many sessions were served there
abbrev pub port_line : ℕ → ℕ → List ℕ
port_line number served =
    codes "port " ++ decimal number ++ codes " sessions " ++ decimal served ++ codes "\n"

-- the lines of a server with a door: that of its first port, and that of the door, the port after
-- it, where all other listeners accept
abbrev pub door_lines : ℕ → List PortValue → List ℕ
door_lines first [] = []
door_lines first (port ∷ ports) =
    port_line first port.served ++ port_line (first + 1) (served_at ports)

-- the lines of all ports, by where their listeners are bound
abbrev pub lines_at : Places → List PortValue → List ℕ
lines_at (place.Row first) ports = concat (worker_lines 0 ports)
lines_at (place.Door first) ports = door_lines first ports

-- the line of the last release
abbrev pub release_line : ℕ → List ℕ
release_line release = codes "release " ++ decimal release ++ codes "\n"

-- the last line where a bind or an accept failed
abbrev pub net_line : List ℕ
net_line = codes "fault net\n"

-- the one line where memory was refused
abbrev pub memory_line : List ℕ
memory_line = codes "fault memory\n"

-- whether the accept of some port failed
abbrev pub some_failed : List PortValue → Bool
some_failed ports = list_any (λ port. port.failed) ports

-- the line after that of the release, where an accept failed
abbrev pub last_lines : Bool → List (List ℕ)
last_lines failed = if failed then net_line ∷ [] else []

-- the lines after those of the ports
abbrev pub closing : ℕ → Bool → List ℕ
closing release failed = release_line release ++ concat (last_lines failed)

-- the whole report
abbrev pub report : Places → List PortValue → ℕ → List ℕ
report places ports release = lines_at places ports ++ closing release (some_failed ports)

-- What the holders of a board's front have seen: a start, and a list of batches.
use Rattle.std.specs.Prelude.{◌++◌, ◌∷◌, []}
use Rattle.std.specs.Coded.{Coded}
use Rattle.tb_core.specs.Desks.{DeskValue, IsRevised}
use Rattle.tb_front.specs.Holders.{Holder, Name, holder, holder_code}
use Rattle.tb_model.specs.Releases.{ReleaseValue}
use Rattle.tb_release.specs.Batches.{BatchValue, batch_code}
use Rattle.tb_release.specs.Chains.{release_after}
use Rattle.tb_board.specs.Starts.{StartValue, start_code}

-- a holder of a board's front
abbrev pub HolderValue : Type 0
HolderValue = Holder BatchValue StartValue

-- how it is coded, for a type whose value has one
abbrev pub holder_value_code : Coded HolderValue
holder_value_code = holder_code batch_code start_code

-- the start of a desk's chain
abbrev pub start_of : DeskValue → StartValue
start_of desk = record { shape = desk.shape; base = desk.base }

-- a holder of a front that has seen a desk's whole chain
abbrev pub holder_at : Name → DeskValue → HolderValue
holder_at name desk = holder name (start_of desk) desk.chain

-- the release to which the batches lead that were seen
abbrev pub release_seen : HolderValue → ReleaseValue
release_seen seen = release_after seen.start.base seen.list

-- a holder that has seen one batch more
abbrev pub with_batch : HolderValue → BatchValue → HolderValue
with_batch seen batch = holder seen.name seen.start (seen.list ++ batch ∷ [])

-- what was seen is release 0 and a chain on it, whose records fit the shape
abbrev pub IsChainSeen : HolderValue → Type 0
IsChainSeen seen = IsRevised seen.start.shape seen.start.base seen.list

-- What a mirror did.
use Rattle.std.specs.Prelude.{◌≡◌, ◌⊎◌, ℕ, zero, suc, false, List, [], None, Some}
use Rattle.tb_base.specs.declared.status.Status.{Status}
use Rattle.tb_leader.specs.Lanes.{LaneValue, first_lane, without_message}
use Rattle.tb_lines.specs.Outputs.{Lead}
use Rattle.tb_mirror.specs.MirrorReplies.{IsMirrorStep}
use Rattle.tb_model.specs.Releases.{ReleaseValue}
use Rattle.tb_model.specs.Schemas.{shape_of}
use Rattle.tb_model.specs.Setups.{SetupValue}
use Rattle.tb_serve.specs.Each.{Each}
use Rattle.tb_serve.specs.Places.{number_at}
use Rattle.tb_serve.specs.Ports.{PortValue}
use Rattle.tb_serve.specs.Serves.{HasServed, IsOutOfMemory, IsReported, IsUnbound, IsVisited}
use Rattle.tb_serve.specs.Serves.{Output}
use Rattle.tb_serve.specs.declared.places.Places.{Places}

-- where a mirror begins: at release 0, with no message that waits or is open
abbrev pub first_mirror : SetupValue → ReleaseValue → LaneValue
first_mirror setup base = first_lane (shape_of setup.schema) base

-- the sessions of the first port led the mirror from where it begins to where it stands, each of
-- them without an open message at its start; those of each other port led an analyst from no batch
-- to a beginning of the mirror's chain
abbrev pub HasMirrored : SetupValue → ReleaseValue → ℕ → LaneValue → ℕ → PortValue → PortValue
    → Type 0
HasMirrored setup base most last zero before after =
    IsVisited (Lead (IsMirrorStep setup)) without_message most (first_mirror setup base) last
    before after
HasMirrored setup base most last (suc i) before after =
    HasServed setup base most [] last.follower.chain.batches (suc i) before after

-- what became of port i: its listener was bound to its number and served its sessions, and no party
-- and no reader of lines is left
pub record IsPortMirrored (setup : SetupValue) (base : ReleaseValue) (places : Places) (most : ℕ)
    (last : LaneValue) (i : ℕ) (before after : PortValue) : Type 0 where
  pub port : after.listener.port ≡ Some (number_at places i)
  pub sessions : HasMirrored setup base most last i before after
  pub party : after.party ≡ None
  pub lines : after.has_lines ≡ false

-- all ports were served, and that was reported with the number of the mirror's release
abbrev pub MirrorsAll : SetupValue → ReleaseValue → Places → ℕ → List PortValue → List PortValue
    → Output → Status → Type 0
MirrorsAll setup base places most before after out ended =
    (last : LaneValue)
    × Each (IsPortMirrored setup base places most last) before after
    × IsReported places after last.follower.chain.batches out ended

-- what a call did with its ports, each of which is to serve so many sessions
abbrev pub Mirrors : SetupValue → ReleaseValue → Places → ℕ → List PortValue → List PortValue
    → Output → Status → Type 0
Mirrors setup base places most before after out ended =
    IsOutOfMemory (number_at places) before after out ended
    ⊎ (IsUnbound (number_at places) before after out ended
    ⊎ MirrorsAll setup base places most before after out ended)

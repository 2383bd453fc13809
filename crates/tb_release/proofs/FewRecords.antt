-- How many records a release has: no more than the types admit.
use Rattle.std.proofs.Common.{◌<◌, ◌≤◌, ℕ, length, arith}
use Rattle.tb_base.specs.declared.people.TheConstants.{MOST_PERSONS}
use Rattle.tb_model.specs.Releases.{ReleaseValue}
use Rattle.tb_release.specs.Possible.{CanAdd}
use Rattle.tb_release.specs.Releases.{IsSound}

pub few_persons : (release : ReleaseValue) → IsSound release → length release.records ≤ MOST_PERSONS
few_persons release sound = omega (arith, sound.few, sound.most)

-- so there is room for one that can be added
pub room_for_one : (release : ReleaseValue) (person key : ℕ) → IsSound release → CanAdd release person key → length release.records < MOST_PERSONS
room_for_one release person key sound can = omega (arith, can.room, sound.most)

-- What the custodian's party tells as an owner.
use mathlib.Core.Path.{refl}
use Rattle.std.specs.Prelude.{ℕ, List}
use Rattle.tb_front.specs.Holders.{Name}
use Rattle.tb_session.specs.Owners.{HasWritten}
use Rattle.tb_session.specs.Parties.{IsOwnerOf, seen_by}
use Rattle.tb_session.specs.declared.party.Party.{Party}
use Rattle.tb_session.specs.declared.party.Party.TheVariants as party

-- the custodian has seen what its writer wrote
pub has_written : (name : Name) (shape : List ℕ) (one : Party) → IsOwnerOf name shape one
    → HasWritten name shape (seen_by one).start.base (seen_by one).list (seen_by one)
has_written name shape (party.Analyst pass) own = absurd own
has_written name shape (party.Custodian custodian held) own =
    record { own = record { front = own.front; fits = own.fits }; first = refl; all = refl }

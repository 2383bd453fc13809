-- What a worker did: which sessions it served at its listener, and where they led its party.
use Rattle.std.specs.Prelude.{◌≡◌, ◌⊎◌, ℕ, ◌≤◌, Bool, true, false, List, [], ◌∷◌, ◌++◌, length, map}
use Rattle.std.specs.Prelude.{option_map}
use Rattle.tb_io.specs.Faults.{HasRisen}
use Rattle.tb_io.specs.Listeners.{Connection, IsCalm, ListenerValue}
use Rattle.tb_io.specs.Sources.{IsAtEnd}
use Rattle.tb_lines.specs.Outputs.{ReplyValue}
use Rattle.tb_worker.specs.Visits.{AreVisits, Visit}
use Rattle.tb_worker.specs.declared.next.Next.{Next}
use Rattle.tb_worker.specs.declared.next.Next.TheVariants as next

-- the sessions as they came, and as they went back
abbrev pub came_of : List Visit → List Connection
came_of visits = map (λ visit. visit.came) visits

abbrev pub went_of : List Visit → List Connection
went_of visits = map (λ visit. visit.went) visits

-- a listener gave some sessions, the first that were to come, and got them back, all in order; none
-- is out
pub record HasGiven (before after : ListenerValue) (visits : List Visit) : Type 0 where
  pub count : before.faults ≤ after.faults
  pub free : after.is_out ≡ false
  pub to_come : before.to_come ≡ option_map (λ rest. came_of visits ++ rest) after.to_come
  pub came_back : after.came_back ≡ option_map (λ back. back ++ went_of visits) before.came_back

-- so many sessions were to be served, and as many were, unless none was left to come or the accept
-- failed; it failed only where the listener's count of faults rose, and of a listener that tells
-- its sessions the count rose only where it failed
pub record IsEnough (most : ℕ) (before after : ListenerValue) (served : ℕ) (failed : Bool)
    : Type 0 where
  pub within : served ≤ most
  pub enough : (served ≡ most) ⊎ (IsAtEnd after.to_come ⊎ (failed ≡ true))
  pub risen : failed ≡ true → HasRisen before.faults after.faults
  pub calm : failed ≡ false → IsCalm before after

-- where it is given which replies are legal, and at which state a session begins
module _ {S : Type 0} (Legal : S → List (List ℕ) → List ReplyValue → S → Type 0) (fresh : S → S)
  where
    -- sessions of a listener were served, and led its party on; the listener stays at its port
    pub record AreServed (before after : ListenerValue) (from to : S) (visits : List Visit)
        : Type 0 where
      pub given : HasGiven before after visits
      pub port : after.port ≡ before.port
      pub lead : AreVisits Legal fresh from visits to

    -- a worker served some sessions, and enough of them
    pub record HasWorked (most : ℕ) (before after : ListenerValue) (from to : S) (served : ℕ)
        (failed : Bool) : Type 0 where
      pub visits : List Visit
      pub visited : AreServed before after from to visits
      pub counted : served ≡ length visits
      pub enough : IsEnough most before after served failed

-- one more session was served; or none was to come; or the accept failed
abbrev pub HasStepped : {S : Type 0} → (S → List (List ℕ) → List ReplyValue → S → Type 0) → (S → S)
    → ListenerValue → ListenerValue → S → S → Next → Type 0
HasStepped Legal fresh before after from to next.Served =
    (visit : Visit) × AreServed Legal fresh before after from to (visit ∷ [])
    × IsCalm before after
HasStepped Legal fresh before after from to next.NoneCame =
    AreServed Legal fresh before after from to [] × IsCalm before after × IsAtEnd after.to_come
HasStepped Legal fresh before after from to next.Failed =
    AreServed Legal fresh before after from to [] × HasRisen before.faults after.faults

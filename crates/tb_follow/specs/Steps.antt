-- What the steps of a delivery do.
use Rattle.std.specs.Prelude.{◌≡◌, ℕ, Bool, true, false, Result, Ok, Err, Some, None}
use Rattle.tb_release.specs.declared.fault.EditFault.{EditFault}
use Rattle.tb_release.specs.declared.fault.EditFault.TheVariants as fault
use Rattle.tb_follow.specs.Deliveries.{advanced, caught_up, given, next_number, outcome, refusal_at}
use Rattle.tb_follow.specs.Followers.{FollowerValue}
use Rattle.tb_follow.specs.Windows.{found}
use Rattle.tb_follow.specs.declared.message.Delivered.{Delivered}
use Rattle.tb_follow.specs.declared.message.Delivered.TheVariants as delivered
use Rattle.tb_follow.specs.declared.message.Message.{Message}

-- the window has the message of the next number, which isn't refused, and is applied
pub record Advances (old new : FollowerValue) : Type 0 where
  pub message : Message
  pub there : found (next_number old) old.window ≡ Some message
  pub possible : refusal_at old message.edits ≡ None
  pub leaves : new ≡ advanced old message.edits

-- one step through the window: there may be another; or it ends
abbrev pub GoesOn : FollowerValue → Bool → FollowerValue → Type 0
GoesOn old true new = Advances old new
GoesOn old false new = (room : ℕ) × (new ≡ caught_up room old)

-- what is returned where edits make no release
abbrev pub refusal_of : EditFault → Delivered
refusal_of (fault.Refused kind edit) = delivered.Refused edit kind
refusal_of fault.Memory = delivered.Memory

-- a message is taken in: what follows from there is what follows its delivery; or that is refused,
-- and nothing has changed
abbrev pub TakesIn : FollowerValue → Message → Result (Unit {0}) Delivered → FollowerValue → Type 0
TakesIn old message (Ok _) new =
    (room : ℕ) → (more : ℕ) × (given more old message ≡ outcome message old (caught_up room new))
TakesIn old message (Err answer) new =
    (new ≡ old)
    × ((room : ℕ) × (given room old message ≡ record { follower = old; answer = answer }))

-- What the answer to a delivery tells.
use Rattle.std.specs.Prelude.{◌≡◌, ◌<◌, ◌≤◌, ◌+◌, ℕ, Some}
use Rattle.tb_follow.specs.Chains.{number_at}
use Rattle.tb_follow.specs.Deliveries.{refusal_at}
use Rattle.tb_follow.specs.Followers.{FollowerValue}
use Rattle.tb_follow.specs.Windows.{MayWait}
use Rattle.tb_follow.specs.declared.limits.TheConstants.{MOST_AHEAD}
use Rattle.tb_follow.specs.declared.message.Delivered.{Delivered}
use Rattle.tb_follow.specs.declared.message.Delivered.TheVariants as delivered
use Rattle.tb_follow.specs.declared.message.Message.{Message}

-- the number of the release that a follower has reached
abbrev pub reached : FollowerValue → ℕ
reached f = number_at f.chain

-- the number stayed, and it is what is returned
pub record IsAt (old new : FollowerValue) (n : ℕ) : Type 0 where
  pub stays : reached new ≡ reached old
  pub told : n ≡ reached old

-- but for want of memory the answers exclude one another, so each comes exactly where this is so:
-- the number rose; or it stayed, and the message's number isn't above it, or is more than so far
-- above it, or is neither that nor the next; or the message is the next one and its edits are
-- refused, and nothing has changed. Memory is refused only to a message that may be applied or
-- wait, and then nothing has changed
abbrev pub Tells : FollowerValue → Message → Delivered → FollowerValue → Type 0
Tells old message (delivered.Applied n) new = (reached old < n) × (reached new ≡ n)
Tells old message (delivered.Old n) new = IsAt old new n × (message.number ≤ n)
Tells old message (delivered.Far n) new = IsAt old new n × (n + MOST_AHEAD < message.number)
Tells old message (delivered.Kept n) new =
    IsAt old new n × (n + 1 < message.number) × (message.number ≤ n + MOST_AHEAD)
Tells old message (delivered.Refused edit kind) new =
    (new ≡ old) × (message.number ≡ reached old + 1)
    × (refusal_at old message.edits ≡ Some (kind, edit))
Tells old message delivered.Memory new = (new ≡ old) × MayWait (reached old) message

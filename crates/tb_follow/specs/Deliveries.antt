-- What a delivered message leaves of a follower, and what is returned.
use Rattle.std.specs.Prelude.{◌+◌, ◌==◌, ℕ, zero, suc, Bool, true, false, if◌then◌else◌}
use Rattle.std.specs.Prelude.{List, [], ◌∷◌, ◌++◌, Option, Some, None, is_none, nat_le, nat_lt}
use Rattle.std.specs.Option.{option_map_or}
use Rattle.tb_release.specs.Batches.{batch_refusal}
use Rattle.tb_release.specs.declared.edits.Edit.{Edit}
use Rattle.tb_release.specs.declared.fault.EditFaultKind.{EditFaultKind}
use Rattle.tb_follow.specs.Chains.{extended, number_at, release_at}
use Rattle.tb_follow.specs.Followers.{FollowerValue}
use Rattle.tb_follow.specs.Windows.{found, has_number, without}
use Rattle.tb_follow.specs.declared.limits.TheConstants.{MOST_AHEAD}
use Rattle.tb_follow.specs.declared.message.Delivered.{Delivered}
use Rattle.tb_follow.specs.declared.message.Delivered.TheVariants as delivered
use Rattle.tb_follow.specs.declared.message.Message.{Message}

-- the number of the release after the one that a follower has reached
abbrev pub next_number : FollowerValue → ℕ
next_number f = number_at f.chain + 1

-- why edits can't follow the release that a follower has reached, if they can't
abbrev pub refusal_at : FollowerValue → List Edit → Option (EditFaultKind × ℕ)
refusal_at f edits = batch_refusal (release_at f.chain) edits

-- the message of the next number leaves the window
abbrev pub dropped : FollowerValue → FollowerValue
dropped f = record f { window = without (next_number f) f.window }

-- edits are applied, and the message of their number leaves the window
abbrev pub advanced : FollowerValue → List Edit → FollowerValue
advanced f edits = record (dropped f) { chain = extended f.chain edits }

-- a message waits
abbrev pub kept : FollowerValue → Message → FollowerValue
kept f message = record f { window = f.window ++ message ∷ [] }

-- while the window has the message of the next number, it is applied; one that is refused is
-- dropped, and ends it. There is memory for so many messages: the next one after them stays
abbrev pub caught_up : ℕ → FollowerValue → FollowerValue
caught_up zero f = f
caught_up (suc room) f =
    option_map_or (λ (m : Message).
    if is_none (refusal_at f m.edits) then caught_up room (advanced f m.edits)
    else dropped f) (found (next_number f) f.window) f

-- what a follower is after a message was delivered, and what is returned
pub record Outcome : Type 0 where
  pub follower : FollowerValue
  pub answer : Delivered

-- what is returned where a message's edits aren't refused, and memory isn't: by the numbers of the
-- message and of the releases before and after it
abbrev pub answer_by : ℕ → ℕ → ℕ → Delivered
answer_by number before after =
    if nat_lt before after then delivered.Applied after
    else if nat_le number before then delivered.Old before
    else if nat_lt (before + MOST_AHEAD) number then delivered.Far before
    else delivered.Kept before

abbrev pub outcome : Message → FollowerValue → FollowerValue → Outcome
outcome message old new =
    record {
      follower = new;
      answer = answer_by message.number (number_at old.chain) (number_at new.chain);
    }

-- memory is refused: the follower is as before, and the message is given up
abbrev pub out_of_memory : FollowerValue → Outcome
out_of_memory f = record { follower = f; answer = delivered.Memory }

-- a message of the next number is applied, unless it is refused
abbrev pub at_next : ℕ → FollowerValue → Message → Option (EditFaultKind × ℕ) → Outcome
at_next zero f message why = out_of_memory f
at_next (suc room) f message None = outcome message f (caught_up room (advanced f message.edits))
at_next (suc room) f message (Some why) =
    record { follower = f; answer = delivered.Refused why.1 why.0 }

-- a message of a later number waits, unless one of that number does already
abbrev pub at_later : ℕ → FollowerValue → Message → Bool → Outcome
at_later room f message true = outcome message f (caught_up room f)
at_later zero f message false = out_of_memory f
at_later (suc room) f message false = outcome message f (caught_up room (kept f message))

-- whether a number is beyond the next one, and not too far ahead
abbrev pub is_later : ℕ → ℕ → Bool
is_later before number =
    if nat_le number (before + 1) then false else nat_le number (before + MOST_AHEAD)

-- a message is delivered, with memory for so many steps
abbrev pub given : ℕ → FollowerValue → Message → Outcome
given room f message =
    if message.number == next_number f
    then at_next room f message (refusal_at f message.edits)
    else if is_later (number_at f.chain) message.number
    then at_later room f message (has_number f.window message.number)
    else outcome message f (caught_up room f)

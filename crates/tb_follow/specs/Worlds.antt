-- A leader and a follower, through any list of events. Nothing here speaks of the program.
use Rattle.std.specs.Prelude.{◌+◌, ◌&&◌, ℕ, Bool, if◌then◌else◌, is_none, nat_le}
use Rattle.std.specs.Prelude.{List, [], ◌∷◌, ◌++◌, fold, length, slice_get}
use Rattle.std.specs.Option.{option_map_or}
use Rattle.tb_model.specs.Releases.{ReleaseValue}
use Rattle.tb_release.specs.Batches.{batch_refusal}
use Rattle.tb_release.specs.Chains.{release_after}
use Rattle.tb_release.specs.Fitting.{edits_fit}
use Rattle.tb_release.specs.declared.edits.Edit.{Edit}
use Rattle.tb_release.specs.declared.limits.TheConstants.{MOST_EDITS}
use Rattle.tb_follow.specs.Deliveries.{given}
use Rattle.tb_follow.specs.Followers.{FollowerValue, at_base, restarted}
use Rattle.tb_follow.specs.Leading.{chain_of}
use Rattle.tb_follow.specs.declared.message.Delivered.{Delivered}
use Rattle.tb_follow.specs.declared.message.Message.{Message}

-- the lists of edits that the leader published, the follower, and what was returned to it so far
pub record World : Type 0 where
  pub led : List (List Edit)
  pub follower : FollowerValue
  pub answers : List Delivered

-- what may happen next: the leader publishes edits; the message that the leader made of those at a
-- place of its list comes, with memory for so many steps; the follower restarts. Any message may
-- come, again and in any order; a loss is one that never comes
pub data Event : Type 0 where
  Publish : (edits : List Edit) → Event
  Comes : (place room : ℕ) → Event
  Restart : Event

-- a leader and a follower at release 0
abbrev pub start : List ℕ → ReleaseValue → World
start shape base = record { led = []; follower = at_base shape base; answers = [] }

-- the leader's release, on the follower's release 0
abbrev pub leaders_release : World → ReleaseValue
leaders_release w =
    release_after w.follower.chain.base (chain_of w.follower.chain.base w.led)

-- whether a leader can publish edits at a release: they fit, they aren't refused, and there aren't
-- too many
abbrev pub can_publish : List ℕ → ReleaseValue → List Edit → Bool
can_publish shape release edits =
    edits_fit shape edits && is_none (batch_refusal release edits)
    && nat_le (length edits) MOST_EDITS

abbrev pub published : World → List Edit → World
published w edits =
    if can_publish w.follower.chain.shape (leaders_release w) edits
    then record w { led = w.led ++ edits ∷ [] }
    else w

-- the message of the edits at a place
abbrev pub message_at : ℕ → List Edit → Message
message_at place edits = record { number = place + 1; edits = edits }

abbrev pub came : World → ℕ → Message → World
came w room message =
    let o = given room w.follower message in
    record w { follower = o.follower; answers = w.answers ++ o.answer ∷ [] }

abbrev pub happens : World → Event → World
happens w (Event.Publish edits) = published w edits
happens w (Event.Comes place room) =
    option_map_or (λ edits. came w room (message_at place edits)) (slice_get w.led place) w
happens w Event.Restart = record w { follower = restarted w.follower }

-- a whole list of events
abbrev pub run_of : World → List Event → World
run_of w events = fold happens w events

-- The messages that wait for those before them.
use Rattle.std.specs.Prelude.{◌≡◌, ◌==◌, ◌<◌, ◌≤◌, ◌+◌, ℕ, Bool, false, not, List, [], ◌∷◌}
use Rattle.std.specs.Prelude.{filter, find, Option}
use Rattle.std.specs.List.{list_any}
use Rattle.tb_follow.specs.declared.limits.TheConstants.{MOST_AHEAD}
use Rattle.tb_follow.specs.declared.message.Message.{Message}

-- whether a message has a number
abbrev pub has : ℕ → Message → Bool
has number m = m.number == number

-- whether a message of that number is there
abbrev pub has_number : List Message → ℕ → Bool
has_number window number = list_any (has number) window

-- the message of that number, if it is there
abbrev pub found : ℕ → List Message → Option Message
found number window = find (has number) window

-- the messages without that of a number
abbrev pub without : ℕ → List Message → List Message
without number window = filter (λ m. not (has number m)) window

-- no two messages have one number
abbrev pub AreDistinct : List Message → Type 0
AreDistinct [] = Unit {0}
AreDistinct (m ∷ ms) = (has_number ms m.number ≡ false) × AreDistinct ms

-- a message may wait at the release of a number: its own is above that, and not too far
pub record MayWait (number : ℕ) (m : Message) : Type 0 where
  pub above : number < m.number
  pub near : m.number ≤ number + MOST_AHEAD

-- A follower.
use Rattle.std.specs.Prelude.{ℕ, List, [], refl}
use Rattle.std.specs.Coded.{Coded, code_by, coded×, coded_list}
use Rattle.std.specs.List.{AllByRecursion}
use Rattle.tb_model.specs.Releases.{ReleaseValue}
use Rattle.tb_follow.specs.Chains.{ChainValue, chain_code, first_chain, number_at}
use Rattle.tb_follow.specs.Messages.{MessageFits, message_code}
use Rattle.tb_follow.specs.Windows.{AreDistinct, MayWait}
use Rattle.tb_follow.specs.declared.message.Message.{Message}

-- the chain as far as it was followed, and the window: the messages that wait
pub record FollowerValue : Type 0 where
  pub chain : ChainValue
  pub window : List Message

-- the same, of its two parts
abbrev pub follower : ChainValue → List Message → FollowerValue
follower chain window = record { chain = chain; window = window }

-- how a follower is coded, for a type whose value is one
abbrev pub follower_code : Coded FollowerValue
follower_code =
    code_by (ChainValue × List Message) (coded× chain_code (coded_list message_code))
    (λ f. (f.chain, f.window)) (λ p. follower p.0 p.1) (λ _. refl)

-- what is true of every follower: the edits that wait fit its shape; the number of each message
-- that waits is above the release's, and not too far; and no two have one number
pub record IsFollower (f : FollowerValue) : Type 0 where
  pub fits : AllByRecursion (MessageFits f.chain.shape) f.window
  pub ahead : AllByRecursion (MayWait (number_at f.chain)) f.window
  pub distinct : AreDistinct f.window

-- a follower at release 0, with nothing in its window
abbrev pub at_base : List ℕ → ReleaseValue → FollowerValue
at_base shape base = follower (first_chain shape base) []

-- a follower that goes back to release 0
abbrev pub restarted : FollowerValue → FollowerValue
restarted f = at_base f.chain.shape f.chain.base

-- The reply to a line of the custodian that asks to publish.
use mathlib.Core.Path.{subst}
use Rattle.std.specs.Prelude.{◌≡◌, ℕ, Bool, true, false, List}
use Rattle.tb_ahead.specs.Publishing.{IsPublishReply, StateValue}
use Rattle.tb_lines.specs.Outputs.{ReplyValue}
use Rattle.tb_model.specs.Releases.{ReleaseValue}
use Rattle.tb_model.specs.Setups.{SetupValue}
use Rattle.tb_release.specs.Chains.{release_after}
use Rattle.tb_session.specs.Asks.{asks_of}
use Rattle.tb_session.specs.Replies.{IsReplyTo}
use Rattle.tb_session.specs.declared.asks.Asks.{Asks}
use Rattle.tb_session.specs.declared.asks.Asks.TheVariants as asks
use Rattle.tb_session.specs.declared.party.Role.TheVariants as role
use Rattle.tb_keep.specs.Publishers.{IsOwnStep, asks_to_publish, is_publish}

-- false isn't true
abbrev IsFalseBit : Bool → Type 0
IsFalseBit false = Unit {0}
IsFalseBit true = ⊥

never : false ≡ true → ⊥
never h = subst IsFalseBit h tt

-- the reply to what asks to publish goes by the held edits and the release
of_publish : (what : Asks) (setup : SetupValue) (base : ReleaseValue) (state : StateValue)
    (line : List ℕ) (reply : ReplyValue) (next : StateValue) → is_publish what ≡ true
    → IsReplyTo what setup base state line reply next
    → (reply.price ≡ 0) × IsPublishReply (release_after base state.chain) state reply.text next
of_publish asks.Nothing setup base state line reply next h is = absurd (never h)
of_publish asks.Description setup base state line reply next h is = absurd (never h)
of_publish asks.Table setup base state line reply next h is = absurd (never h)
of_publish (asks.At n) setup base state line reply next h is = absurd (never h)
of_publish asks.Edit setup base state line reply next h is = absurd (never h)
of_publish asks.Publish setup base state line reply next h is = is
of_publish asks.Stats setup base state line reply next h is = absurd (never h)
of_publish asks.Clear setup base state line reply next h is = absurd (never h)
of_publish (asks.Cache capacity) setup base state line reply next h is = absurd (never h)

-- and so does that to such a line
pub own_publishing : (setup : SetupValue) (base : ReleaseValue) (old : StateValue) (line : List ℕ)
    (reply : ReplyValue) (new : StateValue) → asks_to_publish line ≡ true
    → IsOwnStep setup base old line reply new
    → (reply.price ≡ 0) × IsPublishReply (release_after base old.chain) old reply.text new
own_publishing setup base old line reply new so (at, same, is) =
    of_publish (asks_of role.Custodian line) setup base old line reply new so
    (subst (λ (s : StateValue). IsReplyTo (asks_of role.Custodian line) setup base s line reply new)
    same is)

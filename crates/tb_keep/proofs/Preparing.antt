-- The custodian's party, once a line asks for the publication that was prepared.
use Rattle.std.proofs.Common.{◌≡◌, refl, sym, subst, ℕ, true, List}
use Rattle.tb_front.specs.Holders.{Name}
use Rattle.tb_session.specs.Parties.{IsCustodianOf, IsOwnerOf, IsPartyOf, seen_by}
use Rattle.tb_session.specs.declared.asks.Asks.{Asks}
use Rattle.tb_session.specs.declared.asks.Asks.TheVariants as asks
use Rattle.tb_session.specs.declared.party.Party.{Party}
use Rattle.tb_session.specs.declared.party.Party.TheVariants as party
use Rattle.tb_keep.specs.Publishers.{CanWriteAhead, is_publish}

-- what is to publish
pub to_publish : (what : Asks) → is_publish what ≡ true → what ≡ asks.Publish
to_publish asks.Nothing h = absurd cc
to_publish asks.Description h = absurd cc
to_publish asks.Table h = absurd cc
to_publish (asks.At n) h = absurd cc
to_publish asks.Edit h = absurd cc
to_publish asks.Publish h = refl
to_publish asks.Stats h = absurd cc
to_publish asks.Clear h = absurd cc
to_publish (asks.Cache capacity) h = absurd cc

-- it is the custodian over the shape of its own chain
pub own_shape : (name : Name) (shape : List ℕ) (p : Party) → CanWriteAhead name shape p → IsOwnerOf name (seen_by p).start.shape p
own_shape name shape (party.Analyst pass) is = absurd is.owner
own_shape name shape (party.Custodian custodian held) is = subst (λ (s : List ℕ). IsCustodianOf name s custodian held) (sym is.owner.fits) is.owner

-- and one over that shape is over the setup's
owner_is_party : (name : Name) (shape : List ℕ) (p : Party) → IsOwnerOf name shape p → IsPartyOf name shape p
owner_is_party name shape (party.Analyst pass) is = absurd is
owner_is_party name shape (party.Custodian custodian held) is = is

same_shape : (name : Name) (shape : List ℕ) (p : Party) → CanWriteAhead name shape p → (seen_by p).start.shape ≡ shape
same_shape name shape (party.Analyst pass) is = absurd is.owner
same_shape name shape (party.Custodian custodian held) is = is.owner.fits

pub over_shape : (name : Name) (shape : List ℕ) (p q : Party) → CanWriteAhead name shape p → IsOwnerOf name (seen_by p).start.shape q → IsPartyOf name shape q
over_shape name shape p q is own = owner_is_party name shape q (subst (λ (s : List ℕ). IsOwnerOf name s q) (same_shape name shape p is) own)

-- Parties that leave their ports and are confirmed.
use Rattle.std.proofs.Common.{◌≡◌, subst}
use Rattle.std.specs.Prelude.{IfSome, Option, None}
use Rattle.tb_board.specs.Holders.{HolderValue}
use Rattle.tb_serve.specs.Ports.{PortValue}
use Rattle.tb_serve.specs.Stages.{IsConfirmed}
use Rattle.tb_session.specs.Parties.{IsBehind}
use Rattle.tb_session.specs.declared.party.Party.{Party}

-- a party that left its port was confirmed
pub confirmed_one : (writer now : HolderValue) (one : Option Party) (p q : PortValue) → now ≡ writer → one ≡ p.party
    → q ≡ record p { party = None } → IfSome one (IsBehind now) → IsConfirmed writer p q
confirmed_one writer now one p q same is rest behind = record {
  rest = rest;
  behind = subst (λ (x : HolderValue × Option Party). IfSome x.1 (IsBehind x.0)) (λ i. (same i, is i)) behind;
}

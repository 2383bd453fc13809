-- Parties that are given to ports.
use Rattle.std.proofs.Common.{◌≡◌, refl, ℕ, zero, suc, ◌<◌, Some, arith}
use Rattle.tb_board.specs.Holders.{HolderValue}
use Rattle.tb_serve.specs.Ports.{PortValue}
use Rattle.tb_serve.specs.Stages.{IsSeated}
use Rattle.tb_session.specs.declared.party.Party.TheVariants as party

-- a port past the first got its analyst, and the first none
pub seated_later : (writer : HolderValue) (i : ℕ) (before after : PortValue) → 0 < i → after ≡ record before { party = Some (party.Analyst writer) } → IsSeated writer i before after
seated_later writer zero before after lt is = absurd (omega arith)
seated_later writer (suc i) before after lt is = is

pub not_seated : (writer : HolderValue) (i : ℕ) (before : PortValue) → i ≡ 0 → IsSeated writer i before before
not_seated writer zero before e = refl
not_seated writer (suc i) before e = absurd (omega arith)

-- The custodian, who answers its own lines.
use Rattle.std.proofs.Common.{◌≡◌, ◌∙◌, ap, subst, ℕ, ◌+◌, List, [], ◌∷◌, length, arith}
use Rattle.tb_board.specs.Custodians.{CustodianValue, IsWhole}
use Rattle.tb_board.specs.Holders.{HolderValue}
use Rattle.tb_board.specs.Starts.{StartValue}
use Rattle.tb_front.specs.Holders.{IsLater, Name}
use Rattle.tb_front.proofs.Holding.{later_both}
use Rattle.tb_model.specs.Releases.{ReleaseValue}
use Rattle.tb_release.specs.Batches.{BatchValue}
use Rattle.tb_release.specs.Chains.{after_batch, release_after}
use Rattle.tb_session.specs.Parties.{IsAnalystOf, IsBehind, Learns}
use Rattle.tb_session.specs.declared.party.Party.{Party}
use Rattle.tb_session.specs.declared.party.Party.TheVariants as party

-- an analyst who learnt what a whole custodian's pass has seen, and whose pass was confirmed, has seen just that
pub informed : (custodian : CustodianValue) (first one : Party) → IsWhole custodian → Learns custodian.pass first one → IsBehind custodian.writer one
    → one ≡ party.Analyst custodian.writer
informed custodian (party.Analyst old) (party.Analyst pass) whole (own, knows) behind =
    ap (λ (h : HolderValue). party.Analyst h) (later_both pass custodian.writer behind (subst (λ (h : HolderValue). IsLater h pass) whole.same knows))
informed custodian (party.Analyst old) (party.Custodian other held) whole learns behind = absurd learns
informed custodian (party.Custodian other held) one whole learns behind = absurd learns

-- one who has learnt something is an analyst still
pub learnt : (name : Name) (shape : List ℕ) (seen : HolderValue) (first one : Party) → IsAnalystOf name shape first → Learns seen first one → IsAnalystOf name shape one
learnt name shape seen (party.Analyst old) (party.Analyst pass) is (own, knows) = record { front = own.front ∙ is.front; fits = ap (λ (s : StartValue). s.shape) own.base ∙ is.fits }
learnt name shape seen (party.Analyst old) (party.Custodian other held) is learns = absurd learns
learnt name shape seen (party.Custodian other held) one is learns = absurd learns

-- the number of the last release
number_more : (base : ReleaseValue) (chain : List BatchValue) → (release_after base chain).number ≡ base.number + length chain
number_more base [] = omega arith
number_more base (batch ∷ chain) = let e = number_more (after_batch base batch) chain in omega (arith, e)

pub number_is : (k : CustodianValue) → IsWhole k → k.writer.start.base.number ≡ 0 → k.release.number ≡ length k.writer.list
number_is k whole first = ap (λ (r : ReleaseValue). r.number) whole.current ∙
    (let e = number_more k.writer.start.base k.writer.list in omega (arith, e, first))

-- Holders of one front.
use Rattle.std.proofs.Common.{◌≡◌, refl, sym, ◌∙◌}
use Rattle.tb_front.specs.Holders.{Holder, IsLater}
use Rattle.tb_front.proofs.Prefixes.{prefix_self, prefix_trans, prefix_length, prefix_whole}

pub later_self : {E S : Type 0} (h : Holder E S) → IsLater h h
later_self h = record { front = refl; base = refl; begins = prefix_self h.list }

pub later_trans : {E S : Type 0} (h k l : Holder E S) → IsLater h k → IsLater k l → IsLater h l
later_trans h k l p q =
    record { front = q.front ∙ p.front; base = q.base ∙ p.base; begins = prefix_trans h.list k.list l.list p.begins q.begins }

-- two of which each has seen what the other has are alike
pub later_both : {E S : Type 0} (h k : Holder E S) → IsLater h k → IsLater k h → h ≡ k
later_both h k p q =
    let same : h.list ≡ k.list = prefix_whole h.list k.list p.begins (prefix_length k.list h.list q.begins) in
    λ i. record { name = sym p.front i; start = sym p.base i; list = same i }

-- a holder that sees more again and again is later than it was
pub ruleset seen_more = (later_self, later_trans)

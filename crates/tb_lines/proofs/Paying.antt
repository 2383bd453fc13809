-- What replies cost together, where each costs no more than its price.
use Rattle.std.proofs.Common.{◌≡◌, ap, ◌+◌, ◌≤◌, List, [], ◌∷◌, arith}
use Rattle.tb_lines.specs.Outputs.{AtPrice, Charged, Lead, ReplyValue, price_of}
use Rattle.tb_lines.proofs.Transcribing.{price_of-append}

module _ {S L : Type 0} (Step : S → L → ReplyValue → S → Type 0) where
  -- they lead where they do without their cost, and cost no more than their price
  pub paid : (first : Charged S) (lines : List L) (replies : List ReplyValue) (last : Charged S) → Lead (AtPrice Step) first lines replies last → Lead Step first.at lines replies last.at × (last.steps ≤ first.steps + price_of replies)
  paid first [] [] last e = (ap (λ (s : Charged S). s.at) e, omega (arith, ap (λ (s : Charged S). s.steps) e))
  paid first [] (reply ∷ replies) last e = absurd e
  paid first (line ∷ lines) [] last e = absurd e
  paid first (line ∷ lines) (reply ∷ replies) last (next, (step, cost), others) =
      let (lead, more) = paid next lines replies last others in
      let sum : price_of (reply ∷ replies) ≡ (0 + reply.price) + price_of replies = price_of-append (reply ∷ []) replies in
      ((next.at, step, lead), omega (arith, cost, more, sum))

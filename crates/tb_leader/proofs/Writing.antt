-- How the line of a refused batch is put together.
use Rattle.std.proofs.Common.{◌≡◌, ℕ, List, [], ◌∷◌, ◌++◌, codes, ap, arith}
use Rattle.std.proofs.lemmas.Grind.{common_steps}

pub batch-parts : {a b c d w v : List ℕ} → a ≡ b → c ≡ d → w ≡ v → codes "refused batch " ++ (a ++ 32 ∷ (c ++ 32 ∷ (w ++ 10 ∷ []))) ≡ codes "refused batch " ++ (((((b ++ 32 ∷ []) ++ d) ++ 32 ∷ []) ++ v) ++ 10 ∷ [])
batch-parts h k l = rw (h, k, l) (ap (λ t. codes "refused batch " ++ t) (grind (arith, common_steps)))

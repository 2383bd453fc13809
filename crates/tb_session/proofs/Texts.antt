-- Lines that are put together from pieces.
use Rattle.std.proofs.Common.{◌≡◌, ◌∙◌, sym, ap, append_assoc, ℕ, List, [], ◌∷◌, ◌++◌, arith}
use Rattle.std.specs.Prelude.{codes}
use Rattle.std.proofs.lemmas.Grind.{common_steps}

-- the line of a batch that is refused
pub batch-parts : {a b c d w v : List ℕ} → a ≡ b → c ≡ d → w ≡ v → codes "refused batch " ++ (a ++ 32 ∷ (c ++ 32 ∷ (w ++ 10 ∷ []))) ≡ codes "refused batch " ++ (((((b ++ 32 ∷ []) ++ d) ++ 32 ∷ []) ++ v) ++ 10 ∷ [])
batch-parts h k l = rw (h, k, l) (ap (λ t. codes "refused batch " ++ t) (grind (arith, common_steps)))

-- ten pieces, one after another
ten-pieces : (a b c d e f g h i j : List ℕ) → a ++ (b ++ (c ++ (d ++ (e ++ (f ++ (g ++ (h ++ (i ++ j)))))))) ≡ ((((((((a ++ b) ++ c) ++ d) ++ e) ++ f) ++ g) ++ h) ++ i) ++ j
ten-pieces a b c d e f g h i j =
    sym (append_assoc a b (c ++ (d ++ (e ++ (f ++ (g ++ (h ++ (i ++ j))))))))
    ∙ sym (append_assoc (a ++ b) c (d ++ (e ++ (f ++ (g ++ (h ++ (i ++ j)))))))
    ∙ sym (append_assoc ((a ++ b) ++ c) d (e ++ (f ++ (g ++ (h ++ (i ++ j))))))
    ∙ sym (append_assoc (((a ++ b) ++ c) ++ d) e (f ++ (g ++ (h ++ (i ++ j)))))
    ∙ sym (append_assoc ((((a ++ b) ++ c) ++ d) ++ e) f (g ++ (h ++ (i ++ j))))
    ∙ sym (append_assoc (((((a ++ b) ++ c) ++ d) ++ e) ++ f) g (h ++ (i ++ j)))
    ∙ sym (append_assoc ((((((a ++ b) ++ c) ++ d) ++ e) ++ f) ++ g) h (i ++ j))
    ∙ sym (append_assoc (((((((a ++ b) ++ c) ++ d) ++ e) ++ f) ++ g) ++ h) i (j))

-- the line of the desk's numbers
pub stats-parts : {r l h e c r' l' h' e' c' : List ℕ} → r ≡ r' → l ≡ l' → h ≡ h' → e ≡ e' → c ≡ c'
    → codes "stats release " ++ (r ++ (codes " looks " ++ (l ++ (codes " hits " ++ (h ++ (codes " entries " ++ (e ++ (codes " capacity " ++ (c ++ codes "\n")))))))))
    ≡ codes "stats release " ++ r' ++ codes " looks " ++ l' ++ codes " hits " ++ h' ++ codes " entries " ++ e' ++ codes " capacity " ++ c' ++ codes "\n"
stats-parts {r'} {l'} {h'} {e'} {c'} p q s t u =
    rw (p, q, s, t, u) (ap (λ x. codes "stats release " ++ x) (ten-pieces r' (codes " looks ") l' (codes " hits ") h' (codes " entries ") e' (codes " capacity ") c' (codes "\n")))

-- The line that sums up a text, by its pieces.
use Rattle.std.proofs.Common.{◌≡◌, ◌∙◌, sym, ap, append_assoc, List, ℕ, ◌++◌}
use Rattle.std.specs.Prelude.{codes}

-- ten pieces, one after another
ten-pieces : (a b c d e f g h i j : List ℕ) → a ++ (b ++ (c ++ (d ++ (e ++ (f ++ (g ++ (h ++ (i ++ j))))))))
    ≡ ((((((((a ++ b) ++ c) ++ d) ++ e) ++ f) ++ g) ++ h) ++ i) ++ j
ten-pieces a b c d e f g h i j =
    sym (append_assoc a b (c ++ (d ++ (e ++ (f ++ (g ++ (h ++ (i ++ j))))))))
    ∙ sym (append_assoc (a ++ b) c (d ++ (e ++ (f ++ (g ++ (h ++ (i ++ j)))))))
    ∙ sym (append_assoc ((a ++ b) ++ c) d (e ++ (f ++ (g ++ (h ++ (i ++ j))))))
    ∙ sym (append_assoc (((a ++ b) ++ c) ++ d) e (f ++ (g ++ (h ++ (i ++ j)))))
    ∙ sym (append_assoc ((((a ++ b) ++ c) ++ d) ++ e) f (g ++ (h ++ (i ++ j))))
    ∙ sym (append_assoc (((((a ++ b) ++ c) ++ d) ++ e) ++ f) g (h ++ (i ++ j)))
    ∙ sym (append_assoc ((((((a ++ b) ++ c) ++ d) ++ e) ++ f) ++ g) h (i ++ j))
    ∙ sym (append_assoc (((((((a ++ b) ++ c) ++ d) ++ e) ++ f) ++ g) ++ h) i j)

-- the numbers of persons, of the start, of line feeds and of bytes, and the sum
pub summary-parts : {p s f b v p' s' f' b' v' : List ℕ} → p ≡ p' → s ≡ s' → f ≡ f' → b ≡ b' → v ≡ v'
    → codes "gen " ++ (p ++ (codes " " ++ (s ++ (codes " lines " ++ (f ++ (codes " bytes " ++ (b ++ (codes " sum " ++ (v ++ codes "\n")))))))))
    ≡ codes "gen " ++ p' ++ codes " " ++ s' ++ codes " lines " ++ f' ++ codes " bytes " ++ b' ++ codes " sum " ++ v' ++ codes "\n"
summary-parts {p'} {s'} {f'} {b'} {v'} hp hs hf hb hv =
    rw (hp, hs, hf, hb, hv) (ap (λ x. codes "gen " ++ x)
    (ten-pieces p' (codes " ") s' (codes " lines ") f' (codes " bytes ") b' (codes " sum ") v' (codes "\n")))

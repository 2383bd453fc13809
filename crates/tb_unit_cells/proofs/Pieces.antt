-- Records in pieces.
use Rattle.std.proofs.Common.{◌≡◌, ◌∙◌, ap, subst, ℕ, ◌+◌, ◌<◌, List, [], ◌∷◌, ◌++◌, length, take, get_or, append-nil, arith}
use Rattle.std.specs.Prelude.{All, flat_map}
use Rattle.std.proofs.lemmas.List.{take_more}
use Rattle.std.proofs.lemmas.List.Concat.{flat_map-append, get_or-flat_map}
use Rattle.std.proofs.lemmas.List.Folds.{length-flat_map-take}
use Rattle.tb_base.specs.declared.records.Record.{Record}

-- what holds of each record of the pieces holds of each of one
pub piece-fits : (P : Record → Type 0) (ps : List (List Record)) (i : ℕ) → i < length ps → All P (flat_map (λ q. q) ps) → All P (get_or ps i [])
piece-fits P ps i below all = λ j d inside.
    subst P (get_or-flat_map (λ (q : List Record). q) ps i j [] d below inside)
    (all (length (flat_map (λ q. q) (take i ps)) + j) d (omega (arith, inside, length-flat_map-take (λ (q : List Record). q) ps i [] below)))

-- one piece more
pub one-piece : (ps : List (List Record)) (i : ℕ) → i < length ps → flat_map (λ q. q) (take (i + 1) ps) ≡ flat_map (λ q. q) (take i ps) ++ get_or ps i []
one-piece ps i below =
    ap (flat_map (λ q. q)) (take_more ps i [] below) ∙ flat_map-append (λ (q : List Record). q) (take i ps) (get_or ps i [] ∷ [])
    ∙ ap (λ rs. flat_map (λ q. q) (take i ps) ++ rs) (append-nil (get_or ps i []))

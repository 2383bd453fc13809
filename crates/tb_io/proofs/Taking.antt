-- Texts that a sink takes one after another.
use Rattle.std.proofs.Common.{◌≡◌, ◌∙◌, sym, ap, ℕ, zero, suc, ◌+◌, ◌<◌, List, [], ◌∷◌, ◌++◌, length, take, get_or, Option, refl, arith, append_assoc, append-nil, add-one}
use Rattle.std.specs.List.{concat}
use Rattle.tb_io.specs.Taken.{Took, TookPart}
use Rattle.tb_io.proofs.TakenLemmas.{Took-append, TookPart-append, TookPart-longer}

-- the texts up to one, and that one, are the texts up to the next
concat-take_suc : (xss : List (List ℕ)) (i : ℕ) → i < length xss → concat (take (suc i) xss) ≡ concat (take i xss) ++ get_or xss i []
concat-take_suc [] i h = absurd (omega arith)
concat-take_suc (xs ∷ xss) zero h = rw append-nil refl
concat-take_suc (xs ∷ xss) (suc i) h = ap (λ ys. xs ++ ys) (concat-take_suc xss i (omega arith)) ∙ sym (append_assoc xs (concat (take i xss)) (get_or xss i []))

-- a text that was put after those before it
pub put-more : (xss : List (List ℕ)) (i : ℕ) (x before now : List ℕ) → i < length xss → get_or xss i [] ≡ x → before ≡ concat (take i xss) → now ≡ before ++ x → now ≡ concat (take (i + 1) xss)
put-more xss i x before now h e so_far put = put ∙ rw (add-one, concat-take_suc xss i h, e, so_far) refl

-- all the texts are those up to one and some more
concat-rest : (xss : List (List ℕ)) (i : ℕ) → i < length xss → (more : List ℕ) × (concat xss ≡ (concat (take i xss) ++ get_or xss i []) ++ more)
concat-rest [] i h = absurd (omega arith)
concat-rest (xs ∷ xss) zero h = (concat xss, refl)
concat-rest (xs ∷ xss) (suc i) h =
    let r = concat-rest xss i (omega arith) in
    (r.0, ap (λ ys. xs ++ ys) r.1 ∙ sym (append_assoc xs (concat (take i xss) ++ get_or xss i []) r.0) ∙ ap (λ ys. ys ++ r.0) (sym (append_assoc xs (concat (take i xss)) (get_or xss i []))))

-- one more of the texts was taken
pub Took-more : (a b c : Option (List ℕ)) (xss : List (List ℕ)) (i : ℕ) (x : List ℕ) → i < length xss → get_or xss i [] ≡ x
    → Took a b (concat (take i xss)) → Took b c x → Took a c (concat (take (i + 1) xss))
Took-more a b c xss i x h e before now = rw (add-one, concat-take_suc xss i h, e) (Took-append a b c (concat (take i xss)) x before now)

-- a part of one more of the texts was taken
pub TookPart-more : (a b c : Option (List ℕ)) (xss : List (List ℕ)) (i : ℕ) (x : List ℕ) → i < length xss → get_or xss i [] ≡ x
    → Took a b (concat (take i xss)) → TookPart b c x → TookPart a c (concat xss)
TookPart-more a b c xss i x h e before part =
    let r = concat-rest xss i h in
    let one = TookPart-append a b c (concat (take i xss)) x before part in
    rw (r.1, e) (TookPart-longer a c (concat (take i xss) ++ x) r.0 one)

-- the same bytes, put together in another way
pub Took-same : (a b : Option (List ℕ)) (xs ys : List ℕ) → xs ≡ ys → Took a b xs → Took a b ys
Took-same a b xs ys e h = rw (← e) h

pub TookPart-same : (a b : Option (List ℕ)) (xs ys : List ℕ) → xs ≡ ys → TookPart a b xs → TookPart a b ys
TookPart-same a b xs ys e h = (h.0, rw (← e) h.1)

-- The bytes of several writes, one after another.
use Rattle.std.proofs.Common.{◌≡◌, ◌∙◌, ap, refl, ℕ, ◌+◌, List, [], ◌∷◌, ◌++◌, length, take, Some, None, Option, append_assoc, zero, suc, rules}
use Rattle.std.proofs.Math.Seq.{take-append-add, take-length}
use Rattle.tb_io.specs.Taken.{Took, TookPart}

-- nothing is taken where nothing changes
pub Took-nothing : (a : Option (List ℕ)) → Took a a []
Took-nothing None = refl
Took-nothing (Some xs) = search rules

-- two pieces one after the other are the longer piece
pub Took-append : (a b c : Option (List ℕ)) (xs ys : List ℕ) → Took a b xs → Took b c ys → Took a c (xs ++ ys)
Took-append None None c xs ys h k = k
Took-append None (Some bs) c xs ys h k = cc
Took-append (Some os) None (Some cs) xs ys h k = cc
Took-append (Some os) None None xs ys h k = tt
Took-append (Some os) (Some bs) None xs ys h k = tt
Took-append (Some os) (Some bs) (Some cs) xs ys h k = k ∙ rw h (append_assoc os xs ys)

-- a first part of a text is one of a longer text
take-longer : (k : ℕ) (xs ys : List ℕ) → (j : ℕ) × (take j (xs ++ ys) ≡ take k xs)
take-longer zero xs ys = (0, refl)
take-longer (suc k) [] ys = (0, refl)
take-longer (suc k) (x ∷ xs) ys = let r = take-longer k xs ys in (suc r.0, ap (λ zs. x ∷ zs) r.1)

pub TookPart-longer : (a b : Option (List ℕ)) (xs ys : List ℕ) → TookPart a b xs → TookPart a b (xs ++ ys)
TookPart-longer a b xs ys h = let r = take-longer h.0 xs ys in (r.0, rw r.1 h.1)

-- all of a text is a part of it
pub TookPart-all : (a b : Option (List ℕ)) (xs : List ℕ) → Took a b xs → TookPart a b xs
TookPart-all a b xs h = (length xs, rw take-length h)

-- a whole piece and then a part of the next one are a part of both together
pub TookPart-append : (a b c : Option (List ℕ)) (xs ys : List ℕ) → Took a b xs → TookPart b c ys → TookPart a c (xs ++ ys)
TookPart-append a b c xs ys h k = (length xs + k.0, rw take-append-add (Took-append a b c xs (take k.0 ys) h k.1))

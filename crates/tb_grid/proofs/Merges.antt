-- Lists of cells that are merged one by one.
use Rattle.std.proofs.Common.{◌≡◌, ℕ, zero, suc, ◌<◌, List, [], ◌∷◌, length, get_or, refl, ap, arith}
use Rattle.tb_base.specs.declared.cells.Cell.{Cell}
use Rattle.tb_base.specs.Cells.{merged, merged_all}

pub length-merged_all : (xs ys : List Cell) → length xs ≡ length ys → length (merged_all xs ys) ≡ length xs
length-merged_all [] ys e = refl
length-merged_all (x ∷ xs) [] e = absurd (omega (arith, e))
length-merged_all (x ∷ xs) (y ∷ ys) e = ap suc (length-merged_all xs ys (omega (arith, e)))

pub get_or-merged_all : (xs ys : List Cell) (k : ℕ) (d : Cell) → length xs ≡ length ys → k < length xs → get_or (merged_all xs ys) k d ≡ merged (get_or xs k d) (get_or ys k d)
get_or-merged_all [] ys k d e below = absurd (omega arith)
get_or-merged_all (x ∷ xs) [] k d e below = absurd (omega (arith, e))
get_or-merged_all (x ∷ xs) (y ∷ ys) zero d e below = refl
get_or-merged_all (x ∷ xs) (y ∷ ys) (suc k) d e below = get_or-merged_all xs ys k d (omega (arith, e)) (omega arith)

-- The categories of an add, found one after the other.
use Rattle.std.proofs.Common.{◌≡◌, ◌∙◌, ap, get_or, ℕ, ◌+◌, ◌<◌, ◌≤◌, List, [], ◌∷◌, ◌++◌, drop, map, Some, None, arith}
use Rattle.std.specs.List.{range_with_len}
use Rattle.std.proofs.lemmas.List.FromFn.{get_or-range_with_len, length-range_with_len}
use Rattle.tb_base.specs.Lists.{all_some}
use Rattle.tb_base.proofs.AllThere.{one-missing, one-more, no-more, then_all}
use Rattle.tb_revise.specs.Meanings.{categories_set, category_set}

at-range : (n v : ℕ) → v < n → get_or (range_with_len 0 n) v 0 ≡ v
at-range n v l = let same : 0 + v ≡ v = omega arith in get_or-range_with_len 0 n v 0 l ∙ same

module _ (sets : List (ℕ × ℕ)) (n v : ℕ) (xs : List ℕ) (so_far : then_all xs (all_some (drop v (map (category_set sets) (range_with_len 0 n)))) ≡ categories_set sets n) where
  pub category-more : (c : ℕ) → v < n → category_set sets v ≡ Some c → then_all (xs ++ c ∷ []) (all_some (drop (v + 1) (map (category_set sets) (range_with_len 0 n)))) ≡ categories_set sets n
  category-more c l e = one-more (category_set sets) (range_with_len 0 n) v 0 xs so_far c (omega (arith, l, length-range_with_len 0 n)) (ap (category_set sets) (at-range n v l) ∙ e)

  pub category-missing : v < n → category_set sets v ≡ None → categories_set sets n ≡ None
  category-missing l e = one-missing (category_set sets) (range_with_len 0 n) v 0 xs so_far (omega (arith, l, length-range_with_len 0 n)) (ap (category_set sets) (at-range n v l) ∙ e)

  pub no-more-categories : n ≤ v → categories_set sets n ≡ Some xs
  no-more-categories l = no-more (category_set sets) (range_with_len 0 n) v 0 xs so_far (omega (arith, l, length-range_with_len 0 n))

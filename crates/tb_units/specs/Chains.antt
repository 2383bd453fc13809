-- The links of each dwelling, as chains from one link to the one before it.
use Rattle.std.specs.Prelude.{◌≡◌, ◌==◌, ◌&&◌, ◌||◌, ◌<◌, ℕ, zero, suc, Bool, false, cond, List, length, slice_index}
use Rattle.tb_model.specs.Units.{PairValue}
use Rattle.tb_units.specs.Pairs.{pair_at}

-- of the first n links the last that is to the dwelling of a number: one more than its place, and 0
-- where there is none
unfoldable pub last_to : List PairValue → ℕ → ℕ → ℕ
last_to links number zero = 0
last_to links number (suc n) = cond ((pair_at links n).1 == number) (suc n) (last_to links number n)

-- whether one of the first n links is to the dwelling of a number and passes a test by its place
unfoldable pub any_to : List PairValue → ℕ → (ℕ → Bool) → ℕ → Bool
any_to links number test zero = false
any_to links number test (suc n) =
    (((pair_at links n).1 == number) && test n) || any_to links number test n

-- the chains: where each dwelling's begins, and how it goes on after each link
pub record AreChains
    (dwellings links : List PairValue) (n : ℕ) (heads nexts : List ℕ) : Type 0 where
  pub long : length heads ≡ length dwellings
  pub begin : (d : ℕ) → d < length dwellings
      → slice_index heads d ≡ last_to links (pair_at dwellings d).0 n
  pub all : length nexts ≡ n
  pub go_on : (k : ℕ) → k < n → slice_index nexts k ≡ last_to links (pair_at links k).1 k

-- A walk by the steps of a cube's variables among fewer.
use Rattle.std.proofs.Common.{◌≡◌, ℕ, zero, suc, ◌+◌, ◌*◌, ◌%◌, ◌<◌, ◌≤◌, List, [], ◌∷◌, length, drop, get_or, set, refl, ap, sym, subst, ◌∙◌, arith}
use Rattle.std.proofs.Math.Nat.{mod-mod}
use Rattle.std.proofs.lemmas.List.{drop_more}
use Rattle.tb_base.specs.declared.cells.Cell.{Cell}
use Rattle.tb_base.specs.Parts.{Part, part, part_at, modulus}
use Rattle.tb_base.proofs.PartLemmas.{added-at}
use Rattle.tb_cube.specs.declared.narrowing.Step.{Step}
use Rattle.tb_cube.specs.Narrowing.{forks_of}
use Rattle.tb_cube.specs.Walks.{spread, Fork, StandsAt}
use Rattle.tb_cube.proofs.Walks.{spread-end}

abbrev pub no_step : Step
no_step = record { count = 0; run = 0; stride = 0 }

-- the fork of a step
abbrev pub fork_of : Step → Fork
fork_of s = record { count = s.count; step = λ c. c * s.stride }

pub forks-at : (steps : List Step) (j : ℕ) → j < length steps → forks_of (drop j steps) ≡ fork_of (get_or steps j no_step) ∷ forks_of (drop (j + 1) steps)
forks-at steps j below = ap forks_of (drop_more steps j no_step below)

pub stands-at : (steps : List Step) (j long cells k base : ℕ) → j < length steps → StandsAt (forks_of (drop j steps)) long cells k base
    → StandsAt (fork_of (get_or steps j no_step) ∷ forks_of (drop (j + 1) steps)) long cells k base
stands-at steps j long cells k base below at = subst (λ (ts : List Fork). StandsAt ts long cells k base) (forks-at steps j below) at

-- past the last step there is none
drop-end : (xs : List Step) (j : ℕ) → length xs ≤ j → drop j xs ≡ []
drop-end [] zero below = refl
drop-end [] (suc j) below = refl
drop-end (x ∷ xs) zero below = absurd (omega arith)
drop-end (x ∷ xs) (suc j) below = drop-end xs j (omega arith)

pub last-step : (steps : List Step) (j : ℕ) → j < length steps → length steps ≤ j + 1 → forks_of (drop j steps) ≡ forks_of (get_or steps j no_step ∷ [])
last-step steps j below last =
    ap forks_of (drop_more steps j no_step below ∙ ap (λ ss. get_or steps j no_step ∷ ss) (drop-end steps (j + 1) last))

-- with no step there is one cell
pub one-cell : (p : Part) (all cells : List Cell) (i : ℕ) (new : Cell) (ts : List Fork) → ts ≡ [] → 0 < length cells
    → part p new ≡ (part_at p cells 0 + part_at p all 0) % modulus p
    → part_at p (set cells 0 new) i % modulus p ≡ (part_at p cells i + spread ts (part_at p all) 0 0 i) % modulus p
one-cell p all cells i new ts none below made =
    added-at p cells 0 i new (part_at p all 0) below (ap (λ y. y % modulus p) made ∙ mod-mod (part_at p cells 0 + part_at p all 0) (modulus p))
    ∙ ap (λ s. (part_at p cells i + s) % modulus p) (sym (ap (λ (xs : List Fork). spread xs (part_at p all) 0 0 i) none ∙ spread-end (part_at p all) 0 0 i))

-- no step at all has no fork
pub no-forks : (steps : List Step) → length steps ≡ 0 → forks_of steps ≡ []
no-forks [] e = refl
no-forks (s ∷ ss) e = absurd (omega (arith, e))

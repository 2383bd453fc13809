-- How many messages may wait: no more than there are numbers for them.
use Rattle.std.proofs.Common.{◌≡◌, ℕ, zero, suc, ◌+◌, ◌<◌, ◌≤◌, Bool, true, false, ◌||◌, List, [], ◌∷◌, length, refl, sym, ap, ◌∙◌, arith}
use Rattle.std.specs.Prelude.{Some, not, if◌then◌else◌}
use Rattle.std.specs.List.{AllByRecursion}
use Rattle.std.proofs.lemmas.Bool.{eqb-false, eqb-true}
use Rattle.tb_follow.specs.Chains.{number_at}
use Rattle.tb_follow.specs.Followers.{FollowerValue, IsFollower}
use Rattle.tb_follow.specs.Windows.{AreDistinct, MayWait, found, has, has_number, without}
use Rattle.tb_follow.specs.declared.limits.TheConstants.{MOST_AHEAD}
use Rattle.tb_follow.specs.declared.message.Message.{Message}
use Rattle.tb_follow.proofs.Waiting.{left-distinct}

-- ---- without a number there is at most one less
none-cons : (number : ℕ) (b : Bool) (m : Message) (ms : List Message) → b || has_number ms number ≡ false → (has_number ms number ≡ false → length ms ≤ length (without number ms))
    → length (m ∷ ms) ≤ length (if not b then m ∷ without number ms else without number ms)
none-cons number true m ms none rest = cc
none-cons number false m ms none rest = let h = rest none in omega arith

none-less : (number : ℕ) (ms : List Message) → has_number ms number ≡ false → length ms ≤ length (without number ms)
none-less number [] none = omega arith
none-less number (m ∷ ms) none = none-cons number (has number m) m ms none (none-less number ms)

one-cons : (number : ℕ) (b : Bool) (m : Message) (ms : List Message) → has number m ≡ b → has_number ms m.number ≡ false → length ms ≤ length (without number ms) + 1
    → length (m ∷ ms) ≤ length (if not b then m ∷ without number ms else without number ms) + 1
one-cons number true m ms is none rest =
    let same : m.number ≡ number = eqb-true m.number number is in
    let h = none-less number ms (ap (has_number ms) (sym same) ∙ none) in omega arith
one-cons number false m ms is none rest = omega arith

one-less : (number : ℕ) (ms : List Message) → AreDistinct ms → length ms ≤ length (without number ms) + 1
one-less number [] distinct = omega arith
one-less number (m ∷ ms) distinct = one-cons number (has number m) m ms refl distinct.0 (one-less number ms distinct.1)

-- ---- without one that is there, there is one less
without-cons : (number : ℕ) (b : Bool) (m : Message) (ms : List Message) → length (without number ms) ≤ length ms → length (if not b then m ∷ without number ms else without number ms) ≤ length (m ∷ ms)
without-cons number true m ms rest = omega arith
without-cons number false m ms rest = omega arith

no-more : (number : ℕ) (ms : List Message) → length (without number ms) ≤ length ms
no-more number [] = omega arith
no-more number (m ∷ ms) = without-cons number (has number m) m ms (no-more number ms)

found-cons : (number : ℕ) (b : Bool) (m x : Message) (ms : List Message) → (if b then Some m else found number ms) ≡ Some x → (found number ms ≡ Some x → length (without number ms) < length ms)
    → length (if not b then m ∷ without number ms else without number ms) < length (m ∷ ms)
found-cons number true m x ms there rest = let h = no-more number ms in omega arith
found-cons number false m x ms there rest = let h = rest there in omega arith

pub found-less : (number : ℕ) (ms : List Message) (x : Message) → found number ms ≡ Some x → length (without number ms) < length ms
found-less number [] x there = cc
found-less number (m ∷ ms) x there = found-cons number (has number m) m x ms there (found-less number ms x)

-- ---- numbers within so many of another
abbrev IsWithin : ℕ → ℕ → Message → Type 0
IsWithin n k m = (n < m.number) × (m.number ≤ n + k)

within-cons : (n k : ℕ) (b : Bool) (m : Message) (rest : List Message) → has (n + suc k) m ≡ b → IsWithin n (suc k) m → AllByRecursion (IsWithin n k) rest
    → AllByRecursion (IsWithin n k) (if not b then m ∷ rest else rest)
within-cons n k true m rest is within all = all
within-cons n k false m rest is within all =
    let apart = eqb-false m.number (n + suc k) is in ((within.0, omega (arith, apart)), all)

within-less : (n k : ℕ) (ms : List Message) → AllByRecursion (IsWithin n (suc k)) ms → AllByRecursion (IsWithin n k) (without (n + suc k) ms)
within-less n k [] all = tt
within-less n k (m ∷ ms) all = within-cons n k (has (n + suc k) m) m (without (n + suc k) ms) refl all.0 (within-less n k ms all.1)

few-within : (n k : ℕ) (ms : List Message) → AllByRecursion (IsWithin n k) ms → AreDistinct ms → length ms ≤ k
few-within n zero [] all distinct = omega arith
few-within n zero (m ∷ ms) all distinct = let (above, near) = all.0 in absurd (omega arith)
few-within n (suc k) ms all distinct =
    let rest = few-within n k (without (n + suc k) ms) (within-less n k ms all) (left-distinct (n + suc k) ms distinct) in
    let less = one-less (n + suc k) ms distinct in omega arith

are-within : (n : ℕ) (ms : List Message) → AllByRecursion (MayWait n) ms → AllByRecursion (IsWithin n MOST_AHEAD) ms
are-within n [] all = tt
are-within n (m ∷ ms) all = ((all.0.above, all.0.near), are-within n ms all.1)

pub few_wait : (f : FollowerValue) → IsFollower f → length f.window ≤ MOST_AHEAD
few_wait f is = few-within (number_at f.chain) MOST_AHEAD f.window (are-within (number_at f.chain) f.window is.ahead) is.distinct

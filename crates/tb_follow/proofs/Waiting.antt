-- The messages that wait: what is found, added and removed.
use Rattle.std.proofs.Common.{◌≡◌, ℕ, Bool, true, false, cond, eqb, List, [], ◌∷◌, ◌++◌, refl, sym, subst}
use Rattle.std.specs.Prelude.{Option, Some, not, ◌||◌}
use Rattle.std.specs.List.{AllByRecursion}
use Rattle.std.proofs.lemmas.Bool.{eqb-true, eqb-false, ne_eqb}
use Rattle.tb_follow.specs.declared.message.Message.{Message}
use Rattle.tb_follow.specs.Windows.{AreDistinct, found, has, has_number, without}

-- ---- what is found
chosen : (P : Message → Type 0) (b : Bool) (x m : Message) (rest : Option Message) → (b ≡ true → P x) → (rest ≡ Some m → P m) → cond b (Some x) rest ≡ Some m → P m
chosen P true x m rest here more is = let same : x ≡ m = cc in subst P same (here refl)
chosen P false x m rest here more is = more is

pub found-number : (number : ℕ) (ms : List Message) (m : Message) → found number ms ≡ Some m → m.number ≡ number
found-number number [] m is = cc
found-number number (x ∷ xs) m is =
    chosen (λ (y : Message). y.number ≡ number) (has number x) x m (found number xs) (eqb-true x.number number) (found-number number xs m) is

pub found-holds : (P : Message → Type 0) (number : ℕ) (ms : List Message) (m : Message) → AllByRecursion P ms → found number ms ≡ Some m → P m
found-holds P number [] m all is = cc
found-holds P number (x ∷ xs) m all is = chosen P (has number x) x m (found number xs) (λ e. all.0) (found-holds P number xs m all.1) is

-- ---- what is left
left-cons : (P : Message → Type 0) (b : Bool) (x : Message) (rest : List Message) → P x → AllByRecursion P rest → AllByRecursion P (cond b (x ∷ rest) rest)
left-cons P true x rest here all = (here, all)
left-cons P false x rest here all = all

pub left-holds : (P : Message → Type 0) (number : ℕ) (ms : List Message) → AllByRecursion P ms → AllByRecursion P (without number ms)
left-holds P number [] all = tt
left-holds P number (x ∷ xs) all = left-cons P (not (has number x)) x (without number xs) all.0 (left-holds P number xs all.1)

first_none : (a c d : Bool) → a || c ≡ false → d ≡ false → a || d ≡ false
first_none true c d h k = cc
first_none false c d h k = k

none-cons : (b c : Bool) (n : ℕ) (x : Message) (rest : List Message) → has n x || c ≡ false → has_number rest n ≡ false → has_number (cond b (x ∷ rest) rest) n ≡ false
none-cons true c n x rest none less = first_none (has n x) c (has_number rest n) none less
none-cons false c n x rest none less = less

either_none : (a c : Bool) → a || c ≡ false → (a ≡ false) × (c ≡ false)
either_none true c h = cc
either_none false c h = (refl, h)

left-none : (number n : ℕ) (ms : List Message) → has_number ms n ≡ false → has_number (without number ms) n ≡ false
left-none number n [] none = none
left-none number n (x ∷ xs) none =
    none-cons (not (has number x)) (has_number xs n) n x (without number xs) none (left-none number n xs (either_none (has n x) (has_number xs n) none).1)

left-distinct-cons : (b : Bool) (x : Message) (rest : List Message) → has_number rest x.number ≡ false → AreDistinct rest → AreDistinct (cond b (x ∷ rest) rest)
left-distinct-cons true x rest none distinct = (none, distinct)
left-distinct-cons false x rest none distinct = distinct

pub left-distinct : (number : ℕ) (ms : List Message) → AreDistinct ms → AreDistinct (without number ms)
left-distinct number [] distinct = tt
left-distinct number (x ∷ xs) distinct =
    left-distinct-cons (not (has number x)) x (without number xs) (left-none number x.number xs distinct.0) (left-distinct number xs distinct.1)

-- ---- one more
pub more-holds : (P : Message → Type 0) (ms : List Message) (m : Message) → AllByRecursion P ms → P m → AllByRecursion P (ms ++ m ∷ [])
more-holds P [] m all here = (here, tt)
more-holds P (x ∷ xs) m all here = (all.0, more-holds P xs m all.1 here)

both_none : (a b : Bool) → a ≡ false → b ≡ false → a || b ≡ false
both_none true b h k = cc
both_none false b h k = k

more-none : (ms : List Message) (m : Message) (n : ℕ) → has_number ms n ≡ false → has n m ≡ false → has_number (ms ++ m ∷ []) n ≡ false
more-none [] m n none other = both_none (has n m) false other refl
more-none (x ∷ xs) m n none other =
    let parts = either_none (has n x) (has_number xs n) none in both_none (has n x) (has_number (xs ++ m ∷ []) n) parts.0 (more-none xs m n parts.1 other)

turned : (a b : ℕ) → eqb a b ≡ false → eqb b a ≡ false
turned a b apart = ne_eqb b a (λ e. eqb-false a b apart (sym e))

pub more-distinct : (ms : List Message) (m : Message) → AreDistinct ms → has_number ms m.number ≡ false → AreDistinct (ms ++ m ∷ [])
more-distinct [] m distinct none = (refl, tt)
more-distinct (x ∷ xs) m distinct none =
    let parts = either_none (has m.number x) (has_number xs m.number) none in
    (more-none xs m x.number distinct.0 (turned x.number m.number parts.0), more-distinct xs m distinct.1 parts.1)

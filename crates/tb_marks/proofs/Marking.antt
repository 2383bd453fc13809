-- Marks one after the other.
use Rattle.std.proofs.Common.{◌≡◌, ◌∙◌, ap, refl, ℕ, ◌+◌, ◌%◌, ◌<◌, ◌&&◌, ◌||◌, Bool, true, false, ◌≤◌, cond, List, [], drop, length, arith}
use Rattle.std.specs.Prelude.{◌==◌, not, slice_index}
use Rattle.std.proofs.lemmas.Bool.{eq-eqb}
use Rattle.std.proofs.lemmas.List.{drop_all, drop_more}
use Rattle.tb_base.specs.declared.cells.Cell.{Cell}
use Rattle.tb_base.specs.Parts.{modulus, part_at, weight}
use Rattle.tb_base.proofs.PartLemmas.{add-more}
use Rattle.tb_marks.specs.Marks.{AreMarked, IsMarked}
use Rattle.tb_marks.specs.Raised.{meets, raised_at}

zero-left : (n : ℕ) → 0 + n ≡ n
zero-left n = omega arith

-- of two marks the first that hits counts
once : (a b s : Bool) (w : ℕ) (t : Bool) → t ≡ (a || s) → cond (a && not s) w 0 + cond (b && not t) w 0 ≡ cond ((a || b) && not s) w 0
once true b true w t e = rw e (elim b as (λ b. 0 + cond (b && false) w 0 ≡ 0) [ true ↦ refl | false ↦ refl ])
once true b false w t e = rw e (elim b as (λ b. w + cond (b && false) w 0 ≡ w) [ true ↦ omega arith | false ↦ omega arith ])
once false b s w t e = rw e (zero-left (cond (b && not s) w 0))

stamped : (a : Bool) (stamp old new : ℕ) → new ≡ cond a stamp old → (new == stamp) ≡ (a || (old == stamp))
stamped true stamp old new e = eq-eqb new stamp e
stamped false stamp old new e = ap (λ n. n == stamp) e

twice : (a b : Bool) (stamp old : ℕ) → cond b stamp (cond a stamp old) ≡ cond (a || b) stamp old
twice true true stamp old = refl
twice true false stamp old = refl
twice false true stamp old = refl
twice false false stamp old = refl

module _ (first second : ℕ → Bool) (stamp key : ℕ) (seen mid new : List ℕ) (cells cells' cells'' : List Cell) (i : ℕ) where
  both : IsMarked first stamp key seen cells mid cells' i → IsMarked second stamp key mid cells' new cells'' i → IsMarked (λ i. first i || second i) stamp key seen cells new cells'' i
  both a b = record {
    stamps = b.stamps ∙ ap (cond (second i) stamp) a.stamps ∙ twice (first i) (second i) stamp (slice_index seen i);
    parts = λ p.
        add-more (modulus p) (part_at p cells i) (part_at p cells' i) (part_at p cells'' i)
        (cond (first i && not (slice_index seen i == stamp)) (weight p key) 0) (cond (second i && not (slice_index mid i == stamp)) (weight p key) 0)
        (a.parts p) (b.parts p)
        ∙ ap (λ s. (part_at p cells i + s) % modulus p)
        (once (first i) (second i) (slice_index seen i == stamp) (weight p key) (slice_index mid i == stamp) (stamped (first i) stamp (slice_index seen i) (slice_index mid i) a.stamps));
  }

-- marks by one test and then by another are those by both
pub marked-both : (first second : ℕ → Bool) (stamp key : ℕ) (seen mid new : List ℕ) (cells cells' cells'' : List Cell) → length cells' ≡ length cells
    → AreMarked first stamp key seen cells mid cells' → AreMarked second stamp key mid cells' new cells'' → AreMarked (λ i. first i || second i) stamp key seen cells new cells''
marked-both first second stamp key seen mid new cells cells' cells'' same a b = λ i below.
    both first second stamp key seen mid new cells cells' cells'' i (a i below) (b i (omega (arith, below, same)))

-- the same test by other words
pub marked-same : (test other : ℕ → Bool) (stamp key : ℕ) (seen new : List ℕ) (cells cells' : List Cell) → ((i : ℕ) → i < length cells → test i ≡ other i)
    → AreMarked test stamp key seen cells new cells' → AreMarked other stamp key seen cells new cells'
marked-same test other stamp key seen new cells cells' same a = λ i below.
    let m = a i below in
    let e = same i below in
    record {
      stamps = m.stamps ∙ ap (λ b. cond b stamp (slice_index seen i)) e;
      parts = λ p. m.parts p ∙ ap (λ b. (part_at p cells i + cond (b && not (slice_index seen i == stamp)) (weight p key) 0) % modulus p) e;
    }

-- where no dimension is left a number leads to its own place
pub meets-end : (ns : List ℕ) (d x i : ℕ) → length ns ≤ d → (x == i) ≡ meets (drop d ns) x i
unfolding meets
meets-end ns d x i past = let none : drop d ns ≡ [] = drop_all d ns past in rw none refl

-- and where one is, to those of the number and of the raised one by the dimensions after it
pub meets-here : (ns : List ℕ) (d x up i : ℕ) → d < length ns → up ≡ raised_at ns d x → (meets (drop (d + 1) ns) x i || meets (drop (d + 1) ns) up i) ≡ meets (drop d ns) x i
unfolding meets
meets-here ns d x up i there is = rw (drop_more ns d 0 there, is) refl

-- by the last dimension to its own place and the raised one
pub meets-last : (ns : List ℕ) (d x up i : ℕ) → d + 1 ≡ length ns → up ≡ raised_at ns d x → ((x == i) || (up == i)) ≡ meets (drop d ns) x i
meets-last ns d x up i last is =
    ap (λ b. b || (up == i)) (meets-end ns (d + 1) x i (omega (arith, last))) ∙ ap (λ b. meets (drop (d + 1) ns) x i || b) (meets-end ns (d + 1) up i (omega (arith, last)))
    ∙ meets-here ns d x up i (omega (arith, last)) is

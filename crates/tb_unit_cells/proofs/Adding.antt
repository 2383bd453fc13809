-- Dwellings counted one after the other.
use Rattle.std.proofs.Common.{◌≡◌, ◌∙◌, sym, ap, refl, ℕ, ◌+◌, ◌%◌, ◌<◌, ◌≤◌, ◌&&◌, Bool, true, false, cond, List, length, take, arith}
use Rattle.std.specs.Prelude.{◌==◌, not, slice_index}
use Rattle.std.specs.List.{sum_by}
use Rattle.std.proofs.lemmas.Bool.{ne_eqb}
use Rattle.std.proofs.lemmas.List.{take_more}
use Rattle.std.proofs.lemmas.List.Sums.{sum_by_push}
use Rattle.tb_base.specs.declared.cells.Cell.{Cell}
use Rattle.tb_base.specs.Parts.{modulus, part_at, weight}
use Rattle.tb_base.proofs.PartLemmas.{add-more}
use Rattle.tb_model.specs.Units.{PairValue, UnitsValue}
use Rattle.tb_marks.specs.Marks.{AreMarked}
use Rattle.tb_units.specs.Pairs.{pair_at}
use Rattle.tb_unit_cells.specs.Marking.{home_leads, AreCounted}

module _ (sizes : List ℕ) (units : UnitsValue) (numbers : List ℕ) (start : List Cell) where
  -- the first dwellings are counted, and each mark is of one of them
  pub record Counted (d : ℕ) (seen : List ℕ) (cells : List Cell) : Type 0 where
    pub long : length cells ≡ length start
    pub low : (i : ℕ) → i < length start → slice_index seen i ≤ d
    pub parts : AreCounted sizes units numbers (take d units.dwellings) start cells

  at-most : (b : Bool) (stamp old : ℕ) → old ≤ stamp → cond b stamp old ≤ stamp
  at-most true stamp old h = omega arith
  at-most false stamp old h = h

  not-yet : (b s : Bool) (w : ℕ) → s ≡ false → cond (b && not s) w 0 ≡ cond b w 0
  not-yet true s w e = rw e refl
  not-yet false s w e = refl

  pub counted-more : (d : ℕ) (seen new : List ℕ) (cells cells' : List Cell) → d < length units.dwellings → Counted d seen cells → length cells' ≡ length cells
      → AreMarked (home_leads sizes (length cells) units.links numbers (pair_at units.dwellings d).0) (d + 1) (pair_at units.dwellings d).1 seen cells new cells'
      → Counted (d + 1) new cells'
  counted-more d seen new cells cells' there c same m =
      let hit : ℕ → Bool = home_leads sizes (length start) units.links numbers (pair_at units.dwellings d).0 in
      let before : (i : ℕ) → i < length start → i < length cells = λ i below. omega (arith, below, c.long) in
      record {
        long = same ∙ c.long;
        low = λ i below.
            let old : slice_index seen i ≤ d + 1 = omega (arith, c.low i below) in
            rw (m i (before i below)).stamps (at-most (home_leads sizes (length cells) units.links numbers (pair_at units.dwellings d).0 i) (d + 1) (slice_index seen i) old);
        parts = λ p i below.
            let f : PairValue → ℕ = λ e. cond (home_leads sizes (length start) units.links numbers e.0 i) (weight p e.1) 0 in
            let fresh : (slice_index seen i == d + 1) ≡ false = ne_eqb (slice_index seen i) (d + 1) (λ e. omega (arith, e, c.low i below)) in
            add-more (modulus p) (part_at p start i) (part_at p cells i) (part_at p cells' i) (sum_by f (take d units.dwellings)) (f (pair_at units.dwellings d)) (c.parts p i below)
            ((m i (before i below)).parts p
            ∙ ap (λ x. (part_at p cells i + x) % modulus p) (not-yet _ _ (weight p (pair_at units.dwellings d).1) fresh
            ∙ ap (λ n. cond (home_leads sizes n units.links numbers (pair_at units.dwellings d).0 i) (weight p (pair_at units.dwellings d).1) 0) c.long))
            ∙ ap (λ s. (part_at p start i + s) % modulus p) (sym (ap (sum_by f) (take_more units.dwellings d (0, 0) there) ∙ sum_by_push f (take d units.dwellings) (pair_at units.dwellings d)));
      }

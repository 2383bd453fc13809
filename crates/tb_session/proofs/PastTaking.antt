-- What was taken for a plan, along a chain that goes on.
use Rattle.std.proofs.Common.{◌≡◌, ◌≢◌, ◌∙◌, ℕ, ◌≤◌, false, List, length, take, Option, Some, None, sym, ap, subst, refl, arith}
use Rattle.std.specs.Prelude.{is_some, option_map}
use Rattle.std.specs.Arc.{arc_value}
use Rattle.std.proofs.lemmas.List.{take_all, take-append-le}
use mathlib.Core.List.{IsPrefix}
use Rattle.tb_board.specs.Holders.{HolderValue}
use Rattle.tb_board.specs.Starts.{StartValue}
use Rattle.tb_board.specs.Turns.{IsTakenAt}
use Rattle.tb_board.proofs.Taking.{taken_for}
use Rattle.tb_core.specs.Takes.{IsHit, IsTaken, hit_to, number_of, release_in}
use Rattle.tb_core.specs.Turns.{HitValue}
use Rattle.tb_core.specs.Views.{hit_of}
use Rattle.tb_core.specs.declared.desk.Taken.{Taken}
use Rattle.tb_front.specs.Holders.{IsLater}
use Rattle.tb_front.proofs.Prefixes.{prefix_length}
use Rattle.tb_model.specs.Releases.{ReleaseValue}
use Rattle.tb_plan.specs.Plans.{PlanValue, cube_cells_of, vars_of}
use Rattle.tb_release.specs.Batches.{BatchValue}
use Rattle.tb_release.specs.Chains.{release_after}
use Rattle.tb_release.specs.Revised.{IsRevised, release_at}
use Rattle.tb_session.specs.PastTaken.{IsTakenFor}

-- ---- the first batches of a chain that goes on
first_same : (xs ys : List BatchValue) (n : ℕ) → IsPrefix xs ys → n ≤ length xs → take n ys ≡ take n xs
first_same xs ys n (rest, is) low = ap (λ (zs : List BatchValue). take n zs) (sym is) ∙ take-append-le n xs rest low

release_same : (base : ReleaseValue) (xs ys : List BatchValue) (n : ℕ) → IsPrefix xs ys → n ≤ length xs → release_at base ys n ≡ release_at base xs n
release_same base xs ys n begins low = ap (release_after base) (first_same xs ys n begins low)

hit_same : (shape : List ℕ) (base : ReleaseValue) (xs ys : List BatchValue) (vars : List ℕ) (n m : ℕ) → take n ys ≡ take n xs → take m ys ≡ take m xs → hit_to shape base xs vars n m ≡ hit_to shape base ys vars n m
hit_same shape base xs ys vars n m long short = rw (long, short) refl

hit_later : (shape : List ℕ) (base : ReleaseValue) (xs ys : List BatchValue) (vars : List ℕ) (n : ℕ) (hit : Option HitValue) → IsPrefix xs ys → n ≤ length xs → IsHit shape base xs vars n hit → IsHit shape base ys vars n hit
hit_later shape base xs ys vars n None begins low is = tt
hit_later shape base xs ys vars n (Some hit) begins low (under, wide, is) =
    (under, wide, is ∙ hit_same shape base xs ys hit.cube.vars n hit.number (first_same xs ys n begins low) (first_same xs ys hit.number begins (omega (arith, under, low))))

taken_later : (shape : List ℕ) (base : ReleaseValue) (xs ys : List BatchValue) (vars : List ℕ) (taken : Taken) → IsTaken shape base xs vars taken → IsPrefix xs ys → IsRevised shape base ys → IsTaken shape base ys vars taken
taken_later shape base xs ys vars taken t begins revised = record {
  revised = revised;
  there = omega (arith, t.there, prefix_length xs ys begins);
  release_is = t.release_is ∙ sym (release_same base xs ys (number_of taken) begins t.there);
  hit = hit_later shape base xs ys vars (number_of taken) (option_map hit_of taken.hit) begins t.there t.hit;
}

-- ---- what was taken for a plan
pub none_of : (cells : Option ℕ) → is_some cells ≡ false → cells ≡ None
none_of None h = refl
none_of (Some n) h = cc

module _ (plan : PlanValue) (taken : Taken) where
  -- in a turn, for its variables where its cube isn't too large
  pub for_plan : (seen : HolderValue) (vars : Option (List ℕ)) → IsTakenAt seen vars taken → seen.start.shape ≡ plan.shape → (cube_cells_of plan ≢ None → vars ≡ Some (vars_of plan)) → IsTakenFor plan seen.start.base seen.list taken
  for_plan seen vars t shape are =
      let long : length seen.list ≤ number_of taken = omega (arith, t.number) in record {
        revised = subst (λ (s : List ℕ). IsRevised s seen.start.base seen.list) shape t.chain;
        there = omega (arith, t.number);
        release = t.release ∙ ap (release_after seen.start.base) (sym (take_all (number_of taken) seen.list long));
        by_cube = λ some. taken_for seen (vars_of plan) plan.shape taken (subst (λ (v : Option (List ℕ)). IsTakenAt seen v taken) (are some) t) shape;
      }

  -- of a chain that goes on from there
  for_longer : (base : ReleaseValue) (xs ys : List BatchValue) → IsTakenFor plan base xs taken → IsPrefix xs ys → IsRevised plan.shape base ys → IsTakenFor plan base ys taken
  for_longer base xs ys t begins revised = record {
    revised = revised;
    there = omega (arith, t.there, prefix_length xs ys begins);
    release = t.release ∙ sym (release_same base xs ys (number_of taken) begins t.there);
    by_cube = λ some. taken_later plan.shape base xs ys (vars_of plan) taken (t.by_cube some) begins revised;
  }

  -- which is all that was seen later, and was handed out
  pub for_later : (mid seen : HolderValue) (base : ReleaseValue) (chain : List BatchValue) → IsTakenFor plan mid.start.base mid.list taken → IsLater mid seen → IsRevised seen.start.shape seen.start.base seen.list → seen.start.shape ≡ plan.shape
      → base ≡ seen.start.base → chain ≡ seen.list → IsTakenFor plan base chain taken
  for_later mid seen base chain t later revised shape same all =
      let start : seen.start.base ≡ mid.start.base = ap (λ (s : StartValue). s.base) later.base in
      let own : IsRevised plan.shape mid.start.base seen.list = subst (λ (b : ReleaseValue). IsRevised plan.shape b seen.list) start (subst (λ (s : List ℕ). IsRevised s seen.start.base seen.list) shape revised) in
      subst (λ (c : List BatchValue). IsTakenFor plan base c taken) (sym all)
      (subst (λ (b : ReleaseValue). IsTakenFor plan b seen.list taken) (sym (same ∙ start)) (for_longer mid.start.base mid.list seen.list t later.begins own))

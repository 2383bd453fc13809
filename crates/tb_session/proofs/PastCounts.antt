-- What is counted over what was taken, or over release n of the chain that was handed out.
use Rattle.std.proofs.Common.{◌≡◌, ◌∙◌, ℕ, ◌≤◌, List, length, take, sym, ap, subst, arith}
use Rattle.std.proofs.lemmas.List.{take_all}
use Rattle.tb_base.specs.Records.{AllFit}
use Rattle.tb_board.specs.Holders.{HolderValue}
use Rattle.tb_core.proofs.ChainLemmas.{after_all, revised_at}
use Rattle.tb_core.specs.Desks.{IsCubeAt}
use Rattle.tb_core.specs.Takes.{number_of, release_in}
use Rattle.tb_core.specs.declared.desk.Taken.{Taken}
use Rattle.tb_cube.specs.Cubes.{CubeValue, cube_over, unpacked}
use Rattle.tb_model.specs.Releases.{ReleaseValue}
use Rattle.tb_plan.specs.Plans.{PlanValue, vars_of}
use Rattle.tb_release.specs.Batches.{BatchValue}
use Rattle.tb_release.specs.Chains.{release_after}
use Rattle.tb_release.specs.Revised.{IsRevised, release_at}
use Rattle.tb_session.specs.PastTables.{oldest_of}
use Rattle.tb_session.specs.PastTaken.{IsPastOf, IsTakenFor, base_in, chain_in}
use Rattle.tb_session.specs.declared.count_past.Past.{Past}

-- the records of the release that was taken fit
pub fits_taken : (plan : PlanValue) (base : ReleaseValue) (chain : List BatchValue) (taken : Taken) → IsTakenFor plan base chain taken → AllFit plan.shape (release_in taken).records
fits_taken plan base chain taken t =
    subst (λ (r : ReleaseValue). AllFit plan.shape r.records) (sym t.release) (after_all plan.shape base (take (number_of taken) chain) (revised_at plan.shape base chain (number_of taken) t.revised)).fit

-- it is the release of its number
pub taken_at : (plan : PlanValue) (base : ReleaseValue) (chain : List BatchValue) (taken : Taken) (n : ℕ) → IsTakenFor plan base chain taken → n ≡ number_of taken → release_in taken ≡ release_at base chain n
taken_at plan base chain taken n t same = t.release ∙ ap (λ k. release_at base chain k) (sym same)

-- the last release of a chain tells the oldest one that is shown
pub oldest_last : (base : ReleaseValue) (chain : List BatchValue) (last : ℕ) → last ≡ length chain → (release_at base chain last).rules.oldest ≡ oldest_of base chain
oldest_last base chain last is = ap (λ (c : List BatchValue). (release_after base c).rules.oldest) (take_all last chain (omega (arith, is)))

-- so does the one that was taken, where its number is the last one's
pub oldest_taken : (plan : PlanValue) (base : ReleaseValue) (chain : List BatchValue) (taken : Taken) → IsTakenFor plan base chain taken → number_of taken ≡ length chain → (release_in taken).rules.oldest ≡ oldest_of base chain
oldest_taken plan base chain taken t last =
    ap (λ (r : ReleaseValue). r.rules.oldest) t.release ∙ oldest_last base chain (number_of taken) last

module _ (plan : PlanValue) (seen : HolderValue) (past : Past) (h : IsPastOf plan seen past) where
  -- a release of the chain that was handed out is one of the chain that was seen
  here : (n : ℕ) → release_at (base_in past) (chain_in past) n ≡ release_at seen.start.base seen.list n
  here n = ap (λ (b : ReleaseValue). release_at b (chain_in past) n) h.base ∙ ap (λ (c : List BatchValue). release_at seen.start.base c n) h.batches

  taken_here : (n : ℕ) → n ≡ number_of past.taken → release_in past.taken ≡ release_at seen.start.base seen.list n
  taken_here n same = taken_at plan (base_in past) (chain_in past) past.taken n h.taken same ∙ here n

  long_here : length (chain_in past) ≡ length seen.list
  long_here = ap (λ (c : List BatchValue). length c) h.batches

  -- so its cube may be offered
  pub may_keep : (vars : List ℕ) (n : ℕ) (got : CubeValue) → seen.start.shape ≡ plan.shape → n ≡ number_of past.taken → got ≡ cube_over plan.shape vars (release_in past.taken).records
      → IsCubeAt seen.start.shape seen.start.base seen.list vars n got
  may_keep vars n got shape same is = record {
    there = let low = h.taken.there in omega (arith, same, low, long_here);
    counted =
        ap unpacked is ∙ ap (λ (r : ReleaseValue). cube_over plan.shape vars r.records) (taken_here n same)
        ∙ ap (λ (s : List ℕ). cube_over s vars (release_at seen.start.base seen.list n).records) (sym shape);
  }

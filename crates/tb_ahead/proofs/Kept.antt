-- Lines of a party that writes its batches ahead, one after another.
use Rattle.std.proofs.Common.{◌≡◌, ◌∙◌, sym, subst, refl, ℕ, List, [], ◌∷◌}
use Rattle.tb_lines.specs.Outputs.{Lead, ReplyValue}
use Rattle.tb_model.specs.Releases.{ReleaseValue}
use Rattle.tb_ahead.specs.Keepers.{Reaches}
use Rattle.tb_ahead.specs.Keeping.{KeptState}

-- where each line leads from wherever the party stood, by a step over a release 0 that stays, and
-- what is kept of the party by each line is kept by several, all lead so
module _ {K L : Type 0} (base : K → ReleaseValue) (Continues : K → K → Type 0) (itself : (k : K) → Continues k k) (further_on : (old mid new : K) → Continues old mid → Continues mid new → Continues old new)
    (StandsAt : K → KeptState → Type 0) (One : ReleaseValue → KeptState → L → ReplyValue → KeptState → Type 0) where
  abbrev pub LeadsOn : K → L → ReplyValue → K → Type 0
  LeadsOn old line reply new = (base new ≡ base old) × Continues old new × Reaches (StandsAt old) (StandsAt new) (λ first last. One (base old) first line reply last)

  abbrev All : K → List L → List ReplyValue → K → Type 0
  All old lines replies new = (base new ≡ base old) × Continues old new × Reaches (StandsAt old) (StandsAt new) (λ first last. Lead (One (base old)) first lines replies last)

  pub lines_kept : (old : K) (lines : List L) (replies : List ReplyValue) (new : K) → Lead LeadsOn old lines replies new
      → (base new ≡ base old) × Continues old new × Reaches (StandsAt old) (StandsAt new) (λ first last. Lead (One (base old)) first lines replies last)
  lines_kept old [] [] new e = subst (λ (k : K). All old [] [] k) (sym e) (refl, itself old, λ first at. (first, at, refl))
  lines_kept old [] (reply ∷ replies) new e = absurd e
  lines_kept old (line ∷ lines) [] new e = absurd e
  lines_kept old (line ∷ lines) (reply ∷ replies) new (next, (same, into, reaches), others) =
      let (further, still, rest) = lines_kept next lines replies new others in (
        further ∙ same,
        further_on old next new into still,
        λ first at.
            let (middle, there, step) = reaches first at in
            let (last, end, more) = rest middle there in
            (last, end, (middle, step, subst (λ (b : ReleaseValue). Lead (One b) middle lines replies last) same more)),
      )

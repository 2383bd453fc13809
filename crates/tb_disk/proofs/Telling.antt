-- Steps from what a read gave to what it gives now, where that is told.
use Rattle.std.proofs.Common.{◌≡◌, ℕ, List, Option, None, Some, false, refl, sym, ◌∙◌, ap, subst}
use Rattle.std.specs.Prelude.{is_none}
use Rattle.tb_disk.specs.Images.{Leads, WhereTold}

some-is : (f g : List ℕ) → Some f ≡ Some g → f ≡ g
some-is f g e = cc

module _ (old new : Option (List ℕ)) (step : List ℕ → List ℕ → Type 0) (leads : Leads old new step) where
  -- from what was told before
  pub forward : (file : List ℕ) → old ≡ Some file → (next : List ℕ) × (new ≡ Some next) × step file next
  forward file told = from old leads told
    where
      from : (o : Option (List ℕ)) → Leads o new step → o ≡ Some file → (next : List ℕ) × (new ≡ Some next) × step file next
      from None l e = absurd cc
      from (Some f) l e = (l.0, l.1, subst (λ (x : List ℕ). step x l.0) (some-is f file e) l.2)

  -- to what is told now
  pub back : (next : List ℕ) → new ≡ Some next → (file : List ℕ) × (old ≡ Some file) × step file next
  back next told = to old leads
    where
      to : (o : Option (List ℕ)) → Leads o new step → (file : List ℕ) × (o ≡ Some file) × step file next
      to None l = absurd (cc (l, told))
      to (Some f) l = (f, refl, subst (step f) (some-is l.0 next (sym l.1 ∙ told)) l.2)

-- one step and another
pub Leads-then : {old : Option (List ℕ)} (mid new : Option (List ℕ)) {step more both : List ℕ → List ℕ → Type 0} → Leads old mid step → Leads mid new more
    → ((file next last : List ℕ) → old ≡ Some file → step file next → more next last → both file last) → Leads old new both
Leads-then {old = None} mid new {more} first second join = subst (λ (m : Option (List ℕ)). Leads m new more) first second
Leads-then {old = Some f} mid new {more} first second join =
    let h = forward mid new more second first.0 first.1 in
    (h.0, h.1, join f first.0 h.0 refl first.2 h.2)

-- a step, and nothing more
pub Leads-same : (old mid new : Option (List ℕ)) (step both : List ℕ → List ℕ → Type 0) → Leads old mid step → new ≡ mid
    → ((file next : List ℕ) → old ≡ Some file → new ≡ Some next → step file next → both file next) → Leads old new both
Leads-same None mid new step both first same join = same ∙ first
Leads-same (Some f) mid new step both first same join = (first.0, same ∙ first.1, join f first.0 refl (same ∙ first.1) first.2)

-- nothing changes
pub Leads-stay : (old new : Option (List ℕ)) (step : List ℕ → List ℕ → Type 0) → new ≡ old → ((file : List ℕ) → old ≡ Some file → step file file) → Leads old new step
Leads-stay None new step same stay = same
Leads-stay (Some file) new step same stay = (file, same, stay file refl)

-- nothing, and then a step
pub Leads-first : (old mid new : Option (List ℕ)) (step : List ℕ → List ℕ → Type 0) → mid ≡ old → Leads mid new step → Leads old new step
Leads-first old mid new step same leads = subst (λ (o : Option (List ℕ)). Leads o new step) same leads

-- a step leads from what is told to what is told
pub Leads-tells : (old new : Option (List ℕ)) (step : List ℕ → List ℕ → Type 0) → Leads old new step → is_none new ≡ is_none old
Leads-tells None new step leads = ap is_none leads
Leads-tells (Some file) new step leads = ap is_none leads.1

-- what isn't none is told
pub told-of : (content : Option (List ℕ)) → is_none content ≡ false → (file : List ℕ) × (content ≡ Some file)
told-of None some = absurd cc
told-of (Some file) some = (file, refl)

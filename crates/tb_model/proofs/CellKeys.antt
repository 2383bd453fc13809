-- What is shown of cells with equal counts and cell keys, each by a key range of its own.
use Rattle.std.proofs.Common.{◌≡◌, ℕ, ◌%◌, ℤ, ap, refl, sym, ◌∙◌}
use Rattle.tb_base.specs.declared.keys.Keys.{Keys}
use Rattle.tb_base.specs.declared.keys.TheConstants.{MOST_KEYS}
use Rattle.tb_base.specs.Keys.{ckey_of}
use Rattle.tb_base.proofs.KeyLemmas.{ckey-kept}
use Rattle.tb_model.specs.Perturbations.{by_sum, perturbation, shown, shown_text}
use Rattle.tb_model.specs.UnitWorlds.{SameHomesShown}
use Rattle.tb_model.specs.Worlds.{SameShown}

-- where a count, a threshold and a perturbation agree, so does the text
same-text : (f g : ℕ → ℕ → ℤ) (t u n m k l : ℕ) → n ≡ m → t ≡ u → perturbation f n k ≡ perturbation g m l
    → shown_text (shown f t (record { count = n; key = k })) ≡ shown_text (shown g u (record { count = m; key = l }))
same-text f g t u n m k l count threshold same = rw (same, count, threshold) refl

-- where a count, a cell key, a threshold and the perturbation of that count and cell key agree, so does the text; key sums are as they are kept
same-shown : (a b : Keys) (f g : ℕ → ℕ → ℤ) (t u n m k l : ℕ) → n ≡ m → ckey_of a k ≡ ckey_of b l → t ≡ u → perturbation f n (ckey_of a k) ≡ perturbation g n (ckey_of a k)
    → shown_text (shown (by_sum a f) t (record { count = n; key = k % MOST_KEYS })) ≡ shown_text (shown (by_sum b g) u (record { count = m; key = l % MOST_KEYS }))
same-shown a b f g t u n m k l count ckey threshold same =
    same-text (by_sum a f) (by_sum b g) t u n m (k % MOST_KEYS) (l % MOST_KEYS) count threshold
    (ap (perturbation f n) (ckey-kept a k) ∙ same ∙ ap (perturbation g n) ckey ∙ ap (λ c. perturbation g c (ckey_of b l)) count ∙ ap (perturbation g m) (sym (ckey-kept b l)))

-- where two worlds agree at a cell, its shown text is the same
pub worlds_show_the_same : SameShown
worlds_show_the_same v w agree =
    same-shown v.schema.keys w.schema.keys v.pvalues w.pvalues v.threshold w.threshold _ _ _ _ agree.count agree.ckey agree.threshold agree.same_perturbation

-- and of a table of dwellings
pub homes_show_the_same : SameHomesShown
homes_show_the_same v w agree =
    same-shown v.world.schema.keys w.world.schema.keys v.world.pvalues w.world.pvalues v.world.threshold w.world.threshold _ _ _ _ agree.count agree.ckey agree.threshold agree.same_perturbation

-- A chain on a release 0, and what edits make of it.
use Rattle.std.specs.Prelude.{◌≡◌, ◌++◌, ◌∷◌, ℕ, List, [], length, None, refl}
use Rattle.std.specs.Coded.{Coded, code_by, coded×, coded_list, coded_ℕ}
use Rattle.tb_model.specs.Releases.{ReleaseValue, release_code}
use Rattle.tb_release.specs.Batches.{BatchValue, batch_code, batch_of, batch_refusal}
use Rattle.tb_release.specs.Chains.{release_after}
use Rattle.tb_release.specs.declared.edits.Edit.{Edit}

-- the shape that all records fit, release 0, and the batches that were applied to it
pub record ChainValue : Type 0 where
  pub shape : List ℕ
  pub base : ReleaseValue
  pub batches : List BatchValue

-- how a chain is coded, for a type whose value is one
abbrev pub chain_code : Coded ChainValue
chain_code =
    code_by (List ℕ × (ReleaseValue × List BatchValue))
    (coded× (coded_list coded_ℕ) (coded× release_code (coded_list batch_code)))
    (λ c. (c.shape, (c.base, c.batches)))
    (λ p. record { shape = p.0; base = p.1.0; batches = p.1.1 })
    (λ _. refl)

-- a chain at release 0
abbrev pub first_chain : List ℕ → ReleaseValue → ChainValue
first_chain shape base = record { shape = shape; base = base; batches = [] }

-- the release to which a chain leads, and its number, which is how many batches there are
abbrev pub release_at : ChainValue → ReleaseValue
release_at chain = release_after chain.base chain.batches

abbrev pub number_at : ChainValue → ℕ
number_at chain = length chain.batches

-- a chain with one batch more, that of some edits on its release
abbrev pub extended : ChainValue → List Edit → ChainValue
extended chain edits =
    record chain { batches = chain.batches ++ batch_of (release_at chain) edits ∷ [] }

-- some edits aren't refused, and are applied
pub record Applies (old : ChainValue) (edits : List Edit) (new : ChainValue) : Type 0 where
  pub possible : batch_refusal (release_at old) edits ≡ None
  pub chain : new ≡ extended old edits

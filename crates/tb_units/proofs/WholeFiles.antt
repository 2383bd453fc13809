-- Dwellings and links are such exactly where they add up to them.
use Rattle.std.proofs.Common.{◌≡◌, refl, ℕ, ◌<◌, List, [], ◌∷◌, ◌++◌, length, false, Ok, arith, inl, inr}
use Rattle.std.specs.Prelude.{nat_le}
use Rattle.std.proofs.lemmas.Bool.{cases_Bool}
use Rattle.std.proofs.lemmas.Bool.Decides.{nat_tests}
use Rattle.tb_base.specs.declared.keys.Keys.{Keys}
use Rattle.tb_model.specs.Units.{PairValue}
use Rattle.tb_rows.proofs.Meaning.{Means, means_each_goes}
use Rattle.tb_units.specs.Pairs.{has_first}
use Rattle.tb_units.specs.Dwellings.{and_dwelling, dwellings_file}
use Rattle.tb_units.specs.Links.{and_link, links_file}
use Rattle.tb_units.specs.WholeFiles.{AreDwellings, AreLinks, DwellingGoes, LinkGoes}

dwelling-goes : (most : ℕ) (before : List PairValue) (one : PairValue) (all : List PairValue) → and_dwelling most before one ≡ Ok all → DwellingGoes most before one × (all ≡ before ++ one ∷ [])
dwelling-goes most before one all h = elim (cases_Bool (has_first before one.0)) [
  | inl t ↦ let g = rw t at h in cc
  | inr t ↦ elim (cases_Bool (nat_le most (length before))) [
    | inl u ↦ let g = rw (t, u) at h in cc
    | inr u ↦
        let g = rw (t, u) at h in
        let room : length before < most = grind (arith, nat_tests) in
        ((t, room), cc)
  ]
]

dwelling-takes : (most : ℕ) (before : List PairValue) (one : PairValue) → DwellingGoes most before one → and_dwelling most before one ≡ Ok (before ++ one ∷ [])
dwelling-takes most before one goes =
    let short : length before < most = goes.1 in
    let room : nat_le most (length before) ≡ false = grind (arith, nat_tests) in
    rw (goes.0, room) refl

pub are_dwellings : (most : ℕ) (keys : Keys) → Means (dwellings_file most keys) (AreDwellings most)
are_dwellings most keys =
    means_each_goes (dwellings_file most keys) (λ ds. ds) (DwellingGoes most) refl (λ n before one all h. dwelling-goes most before one all h) (λ n before one goes. dwelling-takes most before one goes)

link-goes : (most : ℕ) (dwellings before : List PairValue) (one : PairValue) (all : List PairValue) → and_link most dwellings before one ≡ Ok all → LinkGoes most dwellings before one × (all ≡ before ++ one ∷ [])
link-goes most dwellings before one all h = elim (cases_Bool (has_first dwellings one.1)) [
  | inr s ↦ let g = rw s at h in cc
  | inl s ↦ elim (cases_Bool (has_first before one.0)) [
    | inl t ↦ let g = rw (s, t) at h in cc
    | inr t ↦ elim (cases_Bool (nat_le most (length before))) [
      | inl u ↦ let g = rw (s, t, u) at h in cc
      | inr u ↦
          let g = rw (s, t, u) at h in
          let room : length before < most = grind (arith, nat_tests) in
          ((s, t, room), cc)
    ]
  ]
]

link-takes : (most : ℕ) (dwellings before : List PairValue) (one : PairValue) → LinkGoes most dwellings before one → and_link most dwellings before one ≡ Ok (before ++ one ∷ [])
link-takes most dwellings before one (known, fresh, short) =
    let room : nat_le most (length before) ≡ false = grind (arith, nat_tests) in
    rw (known, fresh, room) refl

pub are_links : (most : ℕ) (dwellings : List PairValue) → Means (links_file most dwellings) (AreLinks most dwellings)
are_links most dwellings =
    means_each_goes (links_file most dwellings) (λ ls. ls) (LinkGoes most dwellings) refl (λ n before one all h. link-goes most dwellings before one all h) (λ n before one goes. link-takes most dwellings before one goes)

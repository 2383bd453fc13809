-- Records are people exactly where they add up to them.
use Rattle.std.proofs.Common.{◌≡◌, refl, ℕ, ◌+◌, ◌≤◌, List, [], ◌∷◌, ◌++◌, length, length-append, false, Ok, arith, inl, inr}
use Rattle.std.specs.Prelude.{nat_le}
use Rattle.std.proofs.lemmas.Bool.{cases_Bool}
use Rattle.std.proofs.lemmas.Bool.Decides.{nat_tests}
use Rattle.tb_base.specs.Persons.{has_person}
use Rattle.tb_base.specs.declared.records.Record.{Record}
use Rattle.tb_base.proofs.PersonLemmas.{AreDistinct-push, distinct-new}
use Rattle.tb_model.specs.Schemas.{SchemaValue}
use Rattle.tb_rows.proofs.Meaning.{Means, means_good}
use Rattle.tb_records.specs.People.{and_record, people_file}
use Rattle.tb_records.specs.WholeFiles.{ArePeople, MayStand}

goes : (most : ℕ) (before : List Record) (one : Record) (all : List Record) → MayStand most before → and_record most before one ≡ Ok all → MayStand most (before ++ one ∷ []) × (all ≡ before ++ one ∷ [])
goes most before one all stand h = elim (cases_Bool (has_person before one.person)) [
  | inl t ↦ let g = rw t at h in cc
  | inr t ↦ elim (cases_Bool (nat_le most (length before))) [
    | inl u ↦ let g = rw (t, u) at h in cc
    | inr u ↦
        let g = rw (t, u) at h in
        let below : length before + 1 ≤ most = grind (arith, nat_tests) in
        ((AreDistinct-push before one stand.0 t, omega (arith, below, length-append before (one ∷ []))), cc)
  ]
]

takes : (most : ℕ) (before : List Record) (one : Record) (more : List Record) → MayStand most (before ++ one ∷ more) → and_record most before one ≡ Ok (before ++ one ∷ [])
takes most before one more stand =
    let short : length before + 1 ≤ most = omega (arith, stand.1, length-append before (one ∷ more)) in
    let room : nat_le most (length before) ≡ false = grind (arith, nat_tests) in
    rw (distinct-new before one more stand.0, room) refl

pub are_people : (schema : SchemaValue) → Means (people_file schema) (ArePeople schema.persons)
are_people schema = means_good (people_file schema) (λ records. records) (MayStand schema.persons) refl (tt, omega arith) (λ n before one all stand h. goes schema.persons before one all stand h) (λ n before one more stand. takes schema.persons before one more stand)

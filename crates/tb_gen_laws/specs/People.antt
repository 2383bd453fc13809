-- The records of the generated microdata.
use Rattle.std.specs.Prelude.{ℕ, ◌+◌, ◌*◌, ◌%◌, List, [], ◌∷◌}
use Rattle.tb_base.specs.declared.keys.Keys.TheVariants.{K256}
use Rattle.tb_base.specs.declared.records.Record.{Record}
use Rattle.tb_gen.specs.Draws.{after, draw}
use Rattle.tb_gen.specs.Variables.{categories_of}
use Rattle.tb_base.specs.Keys.{key_range}
use Rattle.tb_gen.specs.declared.variables.Variable.TheVariants.{Area, Age, Sex, Tenure}
use Rattle.tb_gen_laws.specs.Ranges.{list_below}

-- a person's record, with five draws from a state
abbrev pub person_record : ℕ → ℕ → Record
person_record person x = record {
  person = person;
  key = draw 1 x % key_range K256;
  codes =
      draw 2 x % categories_of Area ∷ draw 3 x % categories_of Age ∷ draw 4 x % categories_of Sex
      ∷ draw 5 x % categories_of Tenure ∷ [];
}

-- the records of so many persons, who are numbered from 1
abbrev pub generated_records : ℕ → ℕ → List Record
generated_records n start = list_below n (λ i. person_record (i + 1) (after (5 * i) start))

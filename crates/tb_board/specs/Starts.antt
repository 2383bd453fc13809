-- The base of a board's chain.
use Rattle.std.specs.Prelude.{ℕ, List, [], refl}
use Rattle.std.specs.Coded.{Coded, code_by, coded×, coded_list, coded_ℕ}
use Rattle.std.specs.FinMap as finmap
use Rattle.tb_base.specs.Rules.{first_rules}
use Rattle.tb_model.specs.Releases.{ReleaseValue, release_code}

-- the shape that all records fit, and release 0
pub record StartValue : Type 0 where
  pub shape : List ℕ
  pub base : ReleaseValue

-- how it is coded, for a type whose value is one
abbrev pub start_code : Coded StartValue
start_code =
    code_by (List ℕ × ReleaseValue) (coded× (coded_list coded_ℕ) release_code)
    (λ s. (s.shape, s.base))
    (λ p. record { shape = p.0; base = p.1 })
    (λ _. refl)

-- one for those that have none: no variables, no records, and no rule that was set
abbrev pub blank_start : StartValue
blank_start =
    record {
      shape = [];
      base = record {
        records = [];
        pages = [];
        key_book = finmap.from_entries [];
        most = 0;
        number = 0;
        changes = 0;
        edits = 0;
        rules = first_rules 0;
      };
    }

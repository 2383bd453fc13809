-- A release of the microdata.
use Rattle.std.specs.Prelude.{ℕ, List, map, refl}
use Rattle.std.specs.Coded.{Coded, code_by, coded×, coded_ℕ, coded_list}
use Rattle.std.specs.FinMap as finmap
use Rattle.std.specs.Ordering.{nat_cmp}
use Rattle.tb_base.specs.declared.records.Record.{Record}
use Rattle.tb_base.specs.Records.{record_code}
use Rattle.tb_model.specs.Pages.{PageValue, cut, page_code}
use Rattle.tb_base.specs.Rules.{RulesValue, first_rules, rules_code}

-- a key book: from persons to their record keys
abbrev pub KeyBook : Type 0
KeyBook = finmap.FinMap nat_cmp ℕ

-- the records, the pages in which they stand, the key book (the key of each person who ever stood
-- among them), how many records there may be at most, the release's number, how many changes of
-- records led to it and how many edits in all, of records and of rules, and its rules
pub record ReleaseValue : Type 0 where
  pub records : List Record
  pub pages : List PageValue
  pub key_book : KeyBook
  pub most : ℕ
  pub number : ℕ
  pub changes : ℕ
  pub edits : ℕ
  pub rules : RulesValue

-- release 0 with a limit of records and a threshold: the microdata's records, in pages that each
-- came into after the other, each person's key in the key book, no edit so far, and no pvalue that
-- was set
abbrev pub first_release : (most threshold : ℕ) → List Record → ReleaseValue
first_release most threshold people =
    record {
      records = people;
      pages = cut people;
      key_book = finmap.from_entries (map (λ r. (r.person, r.key)) people);
      most = most;
      number = 0;
      changes = 0;
      edits = 0;
      rules = first_rules threshold;
    }

-- how a release is coded, for a type whose value is one
abbrev pub release_code : Coded ReleaseValue
release_code =
    code_by (List Record × (List PageValue × (KeyBook × (ℕ × (ℕ × (ℕ × (ℕ × RulesValue)))))))
    (coded× (coded_list record_code)
    (coded× (coded_list page_code)
    (coded× (finmap.code coded_ℕ coded_ℕ)
    (coded× coded_ℕ (coded× coded_ℕ (coded× coded_ℕ (coded× coded_ℕ rules_code)))))))
    (λ r. (
      r.records,
      (r.pages, (r.key_book, (r.most, (r.number, (r.changes, (r.edits, r.rules)))))),
    ))
    (λ p. record {
      records = p.0;
      pages = p.1.0;
      key_book = p.1.1.0;
      most = p.1.1.1.0;
      number = p.1.1.1.1.0;
      changes = p.1.1.1.1.1.0;
      edits = p.1.1.1.1.1.1.0;
      rules = p.1.1.1.1.1.1.1;
    })
    (λ _. refl)

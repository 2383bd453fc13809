-- Release 0, and what a draft takes over from a release.
use Rattle.std.proofs.Common.{◌≡◌, ℕ, ◌+◌, ◌≤◌, List, [], length, refl, sym, ap, ◌∙◌, subst, arith}
use Rattle.std.specs.Prelude.{All}
use Rattle.tb_base.specs.declared.people.TheConstants.{MOST_PERSONS}
use Rattle.tb_base.specs.declared.records.Record.{Record}
use Rattle.tb_base.specs.Persons.{AreDistinct}
use Rattle.tb_base.specs.Rules.{RulesValue, SetPvalue, first_rules}
use Rattle.tb_model.specs.Pages.{PageValue, records_in}
use Rattle.tb_model.specs.Releases.{KeyBook, ReleaseValue, first_release}
use Rattle.tb_pages.specs.declared.register.Register.{Register}
use Rattle.tb_pages.specs.declared.stock.Stock.{Stock}
use Rattle.tb_pages.specs.Books.{keys_in}
use Rattle.tb_pages.specs.Fillings.{keys_of_records}
use Rattle.tb_pages.specs.Registers.{IsRegister}
use Rattle.tb_pages.specs.Rooms.{AreFilledBy}
use Rattle.tb_pages.specs.Stocks.{IsFirst, IsStock, keys_of, keys_with}
use Rattle.tb_pages.proofs.PageLaws.{records_in-cut}
use Rattle.tb_pages.specs.declared.pages.TheConstants.{PAGES}
use Rattle.tb_pages.proofs.RoomLemmas.{few_pages, records_fill}
use Rattle.tb_release.specs.Releases.{HasKeyOf, IsKept, IsShared, IsSound, stocked}
use Rattle.tb_release.proofs.Books.{key_at}
use Rattle.tb_release.proofs.Edited.{same_release}

all_there : (records : List Record) (stock : Stock) → IsFirst records stock → records_in stock.pages ≡ records
all_there records stock first = ap records_in first.pages ∙ records_in-cut records

-- the keys are those of the records
first_keys : (records : List Record) (stock : Stock) → IsFirst records stock → keys_of stock ≡ keys_of_records records
first_keys records stock first = ap (λ b. keys_with b stock.pages) first.book ∙ ap keys_of_records (all_there records stock first)

first_sound : (records : List Record) (stock : Stock) (most : ℕ) → IsFirst records stock → AreDistinct records → length records ≤ most → most ≤ MOST_PERSONS → (rules : RulesValue) → IsSound (stocked stock most 0 0 0 rules)
first_sound records stock most first distinct few within rules =
    let all = all_there records stock first in
    let keys : All (HasKeyOf (keys_of_records records)) records = λ k d within. key_at records k d distinct within in record {
      distinct = subst AreDistinct (sym all) distinct;
      in_book = subst (All (HasKeyOf (keys_of stock))) (sym all) (subst (λ (b : KeyBook). All (HasKeyOf b) records) (sym (first_keys records stock first)) keys);
      few = subst (λ (rs : List Record). length rs ≤ most) (sym all) few;
      most = within;
      in_pages = refl;
    }

first_whole : (records : List Record) (stock : Stock) → IsFirst records stock → AreDistinct records → IsStock stock
first_whole records stock first distinct =
    let all = all_there records stock first in record {
      placed = λ b is. (let none = first.book in cc);
      living = first.living ∙ sym (ap length all);
      distinct = subst AreDistinct (sym all) distinct;
    }

pub first_kept : (records : List Record) (stock : Stock) (most : ℕ) (rules : RulesValue) → IsFirst records stock → AreDistinct records → length records ≤ most → most ≤ MOST_PERSONS → IsKept stock most 0 0 0 rules
first_kept records stock most rules first distinct few within = record {
  whole = first_whole records stock first distinct;
  sound = first_sound records stock most first distinct few within rules;
  room = subst (λ (ps : List PageValue). AreFilledBy ps (MOST_PERSONS + 0)) (sym first.pages) (let h = records_fill records in omega arith);
  fewer = omega arith;
  few = omega arith;
}

pub first_is : (most : ℕ) (rules : RulesValue) (records : List Record) (stock : Stock) → IsFirst records stock → rules.pvalues ≡ [] → rules.oldest ≡ 0 → stocked stock most 0 0 0 rules ≡ first_release most rules.threshold records
first_is most rules records stock first none shown =
    let alone : rules ≡ first_rules rules.threshold =
    ap (λ (ps : List SetPvalue). record { threshold = rules.threshold; oldest = rules.oldest; pvalues = ps }) none
    ∙ ap (λ (n : ℕ). record { threshold = rules.threshold; oldest = n; pvalues = [] }) shown in
    same_release (all_there records stock first) first.pages (first_keys records stock first) refl refl refl refl alone

-- ---- a release is shared
pub few_pages_kept : (stock : Stock) (most number changes edits : ℕ) (rules : RulesValue) → IsKept stock most number changes edits rules → length stock.pages ≤ PAGES
few_pages_kept stock most number changes edits rules kept =
    let few = kept.few in
    let fewer = kept.fewer in
    let below = few_pages stock.pages (MOST_PERSONS + changes) kept.room (omega arith) in omega arith

pub shared : (stock : Stock) (most number changes edits : ℕ) (rules : RulesValue) (release : ReleaseValue) (register : Register) → IsKept stock most number changes edits rules
    → stocked stock most number changes edits rules ≡ release
    → register.pages ≡ stock.pages → keys_in register.book ≡ keys_of stock → IsRegister register → IsShared release register
shared stock most number changes edits rules release register kept seen pages keys whole =
    subst (λ (r : ReleaseValue). IsShared r register) seen (record {
      same = same_release (ap records_in (sym pages)) (sym pages) (sym keys) refl refl refl refl refl;
      whole = whole;
      sound = kept.sound;
      room = subst (λ (ps : List PageValue). AreFilledBy ps (MOST_PERSONS + changes)) (sym pages) kept.room;
      fewer = kept.fewer;
    })

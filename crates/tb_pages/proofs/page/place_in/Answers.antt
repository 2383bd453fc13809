use Rattle.std.proofs.Common.{sym, ap, ◌∙◌, [], rules}
use Rattle.std.specs.Prelude.{is_some}
use Rattle.std.proofs.lemmas.List.Quantifiers.{position-Some}
use Rattle.std.proofs.lemmas.List.Sorted.{answers_always}
use Rattle.tb_base.specs.declared.records.Record.{Record}
use Rattle.tb_pages.specs.Pages.{is_of}
use Rattle.tb_pages.proofs.PageFinds.{has_place, person_of_place}
use Rattle.tb_pages.proofs.page.place_in.Goals as goal

pub returns-in-Ok : goal.returns-in-Ok
returns-in-Ok c =
    let at = c.in-Ok.ensures.position (λ (r : Record). r.person) (answers_always _ _ _ (λ f a r g called. search rules)) in record {
      within = c.in-Ok.ensures.bound;
      own = λ d. person_of_place c.args.records.now c.args.person c.in-Ok.place d at;
    }

pub unwrap-requires : goal.unwrap-requires
unwrap-requires c = ap is_some c.first_place.ensures ∙ has_place c.args.person c.args.records.now c.requires

pub returns-in-Err : goal.returns-in-Err
returns-in-Err c =
    let rs = c.args.records.now in
    let at = sym c.first_place.ensures ∙ c.unwrap.ensures in
    let none : Record = record { person = 0; key = 0; codes = [] } in record {
      within = (position-Some (is_of c.args.person) rs c.unwrap.result none at).0;
      own = λ d. (position-Some (is_of c.args.person) rs c.unwrap.result d at).1;
    }

use Rattle.std.proofs.Common.{◌∙◌, ◌++◌, ◌≢◌, ap, subst, sym}
use Rattle.std.proofs.lemmas.List.Elements.{All-drop}
use Rattle.csv.specs.Writing.{quote_mark}
use Rattle.tb_rows.specs.Cutting.{HasNoQuote, all_records}
use Rattle.tb_rows.specs.Records.{records_of}
use Rattle.tb_rows.proofs.CutTexts.{all-push, cut-more}
use Rattle.tb_rows.proofs.cutting.cut.Goals as goal

pub parts-init : goal.parts-init
parts-init c = record {
  plain = c.requires.plain;
  all = ap (λ parts. all_records parts ++ records_of c.args.text.now) c.new-parts.ensures.items;
}

pub parts-preserved : goal.parts-preserved
parts-preserved c = record {
  plain = subst HasNoQuote (sym c.split_at.ensures.back) (All-drop (λ b. b ≢ quote_mark) c.in-Some.place c.parts.rest.now c.parts.invariant.plain);
  all =
      ap (λ parts. all_records parts ++ records_of c.split_at.result.1.now) c.in_ok-push.ensures.items
      ∙ cut-more c.parts.parts.items c.split_at.result.0 c.parts.rest.now c.split_at.result.1.now c.in-Some.place (records_of c.args.text.now) c.parts.invariant.plain c.in-Some.ensures.2 c.split_at.ensures.front c.split_at.ensures.back c.parts.invariant.all;
}

pub returns : goal.returns
returns c =
    ap (λ parts. all_records parts) c.in_ok-push-2.ensures.items ∙ all-push c.parts.parts.items c.parts.rest ∙ c.parts.invariant.all

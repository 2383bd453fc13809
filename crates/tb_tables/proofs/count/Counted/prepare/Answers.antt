use Rattle.std.proofs.Common.{◌∙◌}
use Rattle.std.proofs.lemmas.Result.{IfOk-weaker}
use Rattle.tb_tables.proofs.Counts.{counted_text, few_counted}
use Rattle.tb_tables.proofs.count.Counted.prepare.Goals as goal

pub of-requires-clause-few : goal.of-requires-clause-few
of-requires-clause-few c = few_counted c.args.setup.now c.requires.counted.0 c.args.query.now c.args.self c.requires.counted.1

-- whatever release they were counted over
pub returns : goal.returns
returns c = record {
  text = λ release counted. IfOk-weaker c.of.result _ _ (λ text h. h ∙ counted_text c.args.setup.now release c.args.query.now c.args.self counted) c.of.ensures;
}

use Rattle.std.proofs.Common.{arith}
use Rattle.tb_text.proofs.SpanFacts.{most_more}
use Rattle.tb_text.proofs.fields.EntryFields.longest.Goals as goal

pub loop-i-preserved : goal.loop-i-preserved
loop-i-preserved c = λ k d lt.
    most_more c.args.self.now c.loop-i.i c.loop-i.most _ _ (omega arith) c.loop-i.invariant c.field_len-len.ensures c.greater-most.ensures.first c.greater-most.ensures.second k d lt

use Rattle.std.proofs.Common.{◌∙◌, arith}
use Rattle.tb_journal.proofs.Taking.{bytes-there, cut-off}
use Rattle.tb_journal.proofs.reading.read_record.Goals as goal

pub returns-then-from-rest-clause-told : goal.returns-then-from-rest-clause-told
returns-then-from-rest-clause-told g c = λ file told.
    cut-off file c.args.place c.args.size c.in-Is.len (c.requires.size file told) (c.requires.gate file told) (c.in-Is.ensures.told file told)
    (omega (arith, c.if-rest-lt6.false)) (omega (arith, c.if-from-rest.true, c.from.ensures))

pub returns-else-from-rest-clause-told : goal.returns-else-from-rest-clause-told
returns-else-from-rest-clause-told g c = λ file told.
    bytes-there file c.args.place c.args.size c.in-Is.len (c.requires.size file told) (c.requires.gate file told) (c.in-Is.ensures.told file told)
    (omega (arith, c.if-len-gt-MOST_PAYLOAD_BYTES.false)) (omega (arith, c.if-rest-lt6.false)) (omega (arith, c.if-from-rest.false, c.from.ensures))
    c.read_bytes.result (c.read_bytes.ensures.told file (c.read_number.ensures.quiet.same ∙ told))

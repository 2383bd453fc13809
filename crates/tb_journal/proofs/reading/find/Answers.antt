use Rattle.tb_journal.proofs.reading.find.Goals as goal

pub returns-clause-told : goal.returns-clause-told
returns-clause-told g c = λ file told. c.edits_of.ensures.told _ (c.next_payload.ensures.told file told)

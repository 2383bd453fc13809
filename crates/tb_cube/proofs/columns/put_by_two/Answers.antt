use Rattle.tb_cube.proofs.columns.put_by_two.Goals as goal

pub put_all-requires-clause-lead : goal.put_all-requires-clause-lead
put_all-requires-clause-lead c = rw (c.part-records.ensures, c.records.ensures) c.requires.lead

pub put_all-requires-in_default-codes_in-clause-lead : goal.put_all-requires-in_default-codes_in-clause-lead
put_all-requires-in_default-codes_in-clause-lead c = rw (c.part-records.ensures, c.records.ensures) c.requires.lead

pub add_by_two-requires-clause-lead : goal.add_by_two-requires-clause-lead
add_by_two-requires-clause-lead c = rw (c.part-records.ensures, c.records.ensures) c.requires.lead

use Rattle.tb_cube.proofs.columns.put_by_one.Goals as goal

pub put_all-requires-clause-lead : goal.put_all-requires-clause-lead
put_all-requires-clause-lead c = rw (c.part-records.ensures, c.records.ensures) c.requires.lead

pub add_by_one-requires-clause-lead : goal.add_by_one-requires-clause-lead
add_by_one-requires-clause-lead c = rw (c.part-records.ensures, c.records.ensures) c.requires.lead

use Rattle.std.proofs.Common.{arith}
use Rattle.tb_gen_laws.proofs.Computed.{classes-short, recodes-short, schema-is, schema-said, whole_schema}
use Rattle.tb_gen_laws.proofs.classes.generated_classes_are_accepted.Goals as goal

pub returns-clause-accepted : goal.returns-clause-accepted
returns-clause-accepted c = (whole_schema, schema-said, schema-is)

pub returns-clause-short_classes : goal.returns-clause-short_classes
returns-clause-short_classes c = omega (arith, classes-short)

pub returns-clause-short_recodes : goal.returns-clause-short_recodes
returns-clause-short_recodes c = omega (arith, recodes-short)

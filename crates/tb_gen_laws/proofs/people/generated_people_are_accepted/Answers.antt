use Rattle.tb_gen_laws.proofs.Microdata.{people-accepted, people-short}
use Rattle.tb_gen_laws.proofs.people.generated_people_are_accepted.Goals as goal

pub returns : goal.returns
returns c = record { accepted = λ schema n start is few. people-accepted n start few schema is; short = λ n start few. people-short n start few }

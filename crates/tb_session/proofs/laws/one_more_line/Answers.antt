use Rattle.tb_session.specs.Transcripts.{IsStep}
use Rattle.tb_lines.proofs.Transcribing.{Lead-more}
use Rattle.tb_session.proofs.laws.one_more_line.Goals as goal

pub returns : goal.returns
returns c = λ who setup base first middle last lines replies line reply legal step. Lead-more (IsStep who setup base) lines line replies reply first middle last legal step

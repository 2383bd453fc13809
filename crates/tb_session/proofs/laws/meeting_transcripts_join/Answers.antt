use Rattle.tb_session.specs.Transcripts.{IsStep}
use Rattle.tb_lines.proofs.Transcribing.{Lead-append}
use Rattle.tb_session.proofs.laws.meeting_transcripts_join.Goals as goal

pub returns : goal.returns
returns c = λ who setup base first middle last lines more replies others legal meets. Lead-append (IsStep who setup base) lines more replies others first middle last legal meets

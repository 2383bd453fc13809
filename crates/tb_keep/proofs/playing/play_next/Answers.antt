use Rattle.std.proofs.Common.{ap}
use Rattle.tb_journal.specs.States.{JournalState}
use Rattle.tb_keep.proofs.playing.play_next.Goals as goal

pub returns-in-Published-clause-next : goal.returns-in-Published-clause-next
returns-in-Published-clause-next g c = (
  c.in-Batch.edits,
  c.in-Published.ensures.followed,
  c.in-Batch.ensures.told,
  ap (λ (j : JournalState). j.read) c.in-Batch.ensures.state,
  ap (λ (j : JournalState). j.live) c.in-Batch.ensures.state,
  ap (λ (j : JournalState). j.at_end) c.in-Batch.ensures.state,
)

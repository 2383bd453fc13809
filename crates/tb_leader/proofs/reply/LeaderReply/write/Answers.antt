use Rattle.std.proofs.Common.{ap, sym}
use Rattle.tb_io.proofs.Written.{written_as}
use Rattle.tb_leader.specs.ReplyTexts.{reply_text}
use Rattle.tb_leader.proofs.reply.LeaderReply.write.Goals as goal

pub returns-in-BatchRefused : goal.returns-in-BatchRefused
returns-in-BatchRefused g c = written_as {w = c.write_batch_refusal.result} (ap reply_text (sym c.in-BatchRefused.is)) c.write_batch_refusal.ensures.written

pub returns-in-Refused : goal.returns-in-Refused
returns-in-Refused g c =
    let write = c.write-in-Refused.ensures in
    written_as {w = c.write-in-Refused.result} (ap reply_text (sym c.in-Refused.is)) (record { count = write.count; failed = write.failed; all = write.all; part = write.part })
